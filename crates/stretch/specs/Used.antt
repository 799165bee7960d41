-- Which entries a stretch uses, and which blocks it reads.
-- Assumes nothing.
use Rattle.std.specs.Prelude.{ℕ, zero, suc, ◌+◌, ◌-◌, ◌*◌, ◌/◌, ◌≤◌, ◌<◌, Bool, true, false, cond, List, [], ◌∷◌, ◌++◌, ◌⊎◌, ◌≡◌}
use Rattle.index.specs.Tree.{entry_length, top_level, size_of, from_of, to_of, stands_at}
use Rattle.index.specs.Entry.{summary_in}
use Rattle.stretch.specs.declared.Found.{Found}
use Rattle.stretch.specs.declared.Found.TheVariants.{Nothing, Faulty, Outside, Sum}
use Rattle.stretch.specs.Found.{Source, entry_ok, whole, apart, part_in}

-- a node of an index: its level and the first of its blocks
pub record Node : Type 0 where
  pub level : ℕ
  pub block : ℕ

-- the nodes whose entries are used in the part of the stretch that lies in a node
unfoldable pub used_in : ℕ → ℕ → ℕ → ℕ → ℕ → List Node
used_in n first last zero x = cond (apart n first last 0 x) [] (cond (whole n first last 0 x) (record { level = 0; block = x } ∷ []) [])
used_in n first last (suc k) x =
    cond (apart n first last (suc k) x)
    []
    (cond (whole n first last (suc k) x) (record { level = suc k; block = x } ∷ []) (used_in n first last k x ++ used_in n first last k (x + size_of k)))

-- and the blocks that are partly read
unfoldable pub read_in : ℕ → ℕ → ℕ → ℕ → ℕ → List ℕ
read_in n first last zero x = cond (apart n first last 0 x) [] (cond (whole n first last 0 x) [] (x ∷ []))
read_in n first last (suc k) x =
    cond (apart n first last (suc k) x) [] (cond (whole n first last (suc k) x) [] (read_in n first last k x ++ read_in n first last k (x + size_of k)))

abbrev pub used_of : ℕ → ℕ → ℕ → List Node
used_of n first last = used_in n first last top_level 0

abbrev pub read_of : ℕ → ℕ → ℕ → List ℕ
read_of n first last = read_in n first last top_level 0

-- a list has an element
abbrev pub Among : {A : Type 0} → A → List A → Type 0
Among d [] = ⊥
Among d (e ∷ es) = (d ≡ e) ⊎ Among d es

-- Those used lie whole in the stretch while the one above doesn't. The i-th node of a level begins at block i × 2^k, and above it stands the (i / 2)-th of the next.
pub record Used (n first last : ℕ) (d : Node) : Type 0 where
  pub nth : ℕ
  pub begins : d.block ≡ size_of d.level * nth
  pub exists : from_of d.block < n
  pub below_top : d.level ≤ top_level
  pub lies_whole : whole n first last d.level d.block ≡ true
  pub above_not : (d.level ≡ top_level) ⊎ (whole n first last (suc d.level) (size_of (suc d.level) * (nth / 2)) ≡ false)

-- the entry of a node is in range
abbrev pub node_ok : Source → Node → Bool
node_ok q d =
    entry_ok (to_of q.events d.level d.block - from_of d.block) (summary_in q.limits q.index (entry_length * stands_at q.events d.level d.block))

-- The earliest fault of the partly read blocks, along a list of them: the first one's, if it has one, or that of those behind it; nothing where none has one.
abbrev pub fault_or : Found → Found → Found
fault_or (Faulty r) g = Faulty r
fault_or Nothing g = g
fault_or Outside g = g
fault_or (Sum s) g = g

unfoldable pub first_fault : Source → ℕ → ℕ → List ℕ → Found
first_fault q first last [] = Nothing
first_fault q first last (b ∷ bs) = fault_or (part_in q first last b) (first_fault q first last bs)

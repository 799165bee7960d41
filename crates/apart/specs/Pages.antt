-- Two files that are read in step: what is printed of them, page after page, however their bytes are cut into windows.
-- Assumes nothing.
use Rattle.std.specs.Prelude.{Ok, Err}
use Rattle.std.specs.Prelude.{ℕ, ◌+◌, true, List, [], ◌∷◌, ◌++◌, ◌≡◌, length, drop}
use Rattle.shaper.specs.declared.Limits.{Limits}
use Rattle.summary.specs.Answer.{Answer}
use Rattle.report.specs.Report.{printed_of}
use Rattle.record.specs.Items.{Item, items_bytes, unrolled, ItemsOk}
use Rattle.apart.specs.declared.Side.{Side}
use Rattle.apart.specs.declared.Walk.{Walk}
use Rattle.apart.specs.Text.{opening_text, closing_text}
use Rattle.apart.specs.Page.{walk_of, walk_text}

-- ---- the pages

-- a window of a file, what is known of the file, and what stands behind the window
pub record Cut : Type 0 where
  pub window : List ℕ
  pub side : Side
  pub rest : List ℕ

-- the file's bytes from the window's beginning on
abbrev pub bytes_of : Cut → List ℕ
bytes_of c = c.window ++ c.rest

-- A page is so many turns of a walk; or both files go on with the same items, which are passed unlisted, and with other bytes behind them.
pub data Page : Type 0 where
  turns : Cut → Cut → Walk → ℕ → Page
  equal : List Item → List ℕ → List ℕ → Page

abbrev pub page_text : Page → List ℕ
page_text (turns c d walk k) = walk_text k c.side d.side c.window d.window walk
page_text (equal is xs ys) = []

abbrev pub pages_text : List Page → List ℕ
pages_text [] = []
pages_text (p ∷ ps) = page_text p ++ pages_text ps

-- ---- they go through both files

-- A cut of a file that bears these settings, at a place of which its bytes xs begin and g of the first item's events have gone by. Where the window is the last, no byte
-- stands behind it.
pub record CutAt (l : Limits) (c : Cut) (at gone : ℕ) (xs : List ℕ) (g : ℕ) : Type 0 where
  pub settings : c.side.mtu ≡ l.mtu
  pub bytes : xs ≡ drop at (bytes_of c)
  pub events : g ≡ gone
  pub last : c.side.last ≡ true → c.rest ≡ []

-- The pages of two files with these settings, which have xs and ys left, g and h events of their first items having gone by, from a position on: each goes on where the
-- one before it ended, and behind the last no byte of either file is left.
abbrev pub InTurn : Limits → Limits → ℕ → List ℕ → ℕ → List ℕ → ℕ → List Page → Type 0
InTurn l m n xs g ys h [] = (xs ≡ []) × (ys ≡ [])
InTurn l m n xs g ys h (turns c d walk k ∷ ps) =
    let end = walk_of k c.side d.side c.window d.window walk in
    (n ≡ walk.position)
    × CutAt l c walk.first.at walk.first.gone xs g
    × CutAt m d walk.second.at walk.second.gone ys h
    × InTurn l m end.position (drop end.first.at (bytes_of c)) end.first.gone (drop end.second.at (bytes_of d)) end.second.gone ps
InTurn l m n xs g ys h (equal is us vs ∷ ps) =
    (g ≡ 0) × (h ≡ 0) × (xs ≡ items_bytes is ++ us) × (ys ≡ items_bytes is ++ vs) × ItemsOk true l is × ItemsOk true m is
    × InTurn l m (n + length (unrolled is)) us 0 vs 0 ps

-- ---- the whole

-- What is printed of two files, by what each comes to: the refusal of the first before that of the second; else the settings that differ, the pages and both
-- summaries, each a write of its own (`compare_printed`, proofs/Windows.antt, says that this is `compare_of`).
abbrev pub printed_by : Answer → Answer → List Page → List ℕ
printed_by (Err r) b ps = printed_of (Err r)
printed_by (Ok s) (Err r) ps = printed_of (Err r)
printed_by (Ok s) (Ok t) ps = opening_text s.limits t.limits ++ pages_text ps ++ closing_text (Ok s) (Ok t)

-- Each arm is a row of the definition, by the bounds that led there.
-- Assumes nothing.
use mathlib.Core.Path.{◌≡◌, refl}
use native.Mathlib.Omega.{arith}
use Rattle.decide.proofs.Cases.{by_cases, le_or}
use Rattle.hex_text.specs.Hex.{glyph_of}
use Rattle.hex_text.proofs.Rows.{glyph_decimal, glyph_upper, glyph_lower, glyph_other}
use Rattle.hex_text.proofs.glyph_of.Goals as goal

pub returns-in-48-to-57 : goal.returns-in-48-to-57
returns-in-48-to-57 c = glyph_decimal _ (omega arith) (omega arith)

pub returns-in-65-to-70 : goal.returns-in-65-to-70
returns-in-65-to-70 c = glyph_upper _ (omega arith) (omega arith)

pub returns-in-97-to-102 : goal.returns-in-97-to-102
returns-in-97-to-102 c = glyph_lower _ (omega arith) (omega arith)

pub returns-in_default : goal.returns-in_default
returns-in_default c =
    glyph_other _ (λ p q. omega arith) (λ p q. omega arith) (λ p q. omega arith)
    (record { tab = λ e. omega arith; line_feed = λ e. omega arith; return = λ e. omega arith; space = λ e. omega arith })

pub returns-in_default-2 : goal.returns-in_default-2
returns-in_default-2 c =
    glyph_other _ (λ p q. omega arith) (λ p q. omega arith) (λ p q. omega arith)
    (record { tab = λ e. grind arith; line_feed = λ e. grind arith; return = λ e. grind arith; space = λ e. grind arith })

pub returns-in_default-3 : goal.returns-in_default-3
returns-in_default-3 c =
    glyph_other _ (λ p q. omega arith) (λ p q. omega arith) (λ p q. omega arith)
    (record { tab = λ e. omega arith; line_feed = λ e. omega arith; return = λ e. omega arith; space = λ e. omega arith })

pub returns-in_default-4 : goal.returns-in_default-4
returns-in_default-4 c =
    glyph_other _ (λ p q. omega arith) (λ p q. omega arith) (λ p q. omega arith)
    (record { tab = λ e. omega arith; line_feed = λ e. omega arith; return = λ e. omega arith; space = λ e. omega arith })

pub returns-in_default-5 : goal.returns-in_default-5
returns-in_default-5 c =
    glyph_other _ (λ p q. omega arith) (λ p q. omega arith) (λ p q. omega arith)
    (record { tab = λ e. omega arith; line_feed = λ e. omega arith; return = λ e. omega arith; space = λ e. omega arith })

pub returns-in-9 : goal.returns-in-9
unfolding glyph_of
returns-in-9 c = by_cases c.in-9.is (λ e. rw e refl) (λ e. rw e refl)

pub returns-in-9-2 : goal.returns-in-9-2
unfolding glyph_of
returns-in-9-2 c =
    by_cases (le_or c.args.c 9)
    (λ h. let e : c.args.c ≡ 9 = omega arith in rw e refl)
    (λ h. let e : c.args.c ≡ 10 = omega arith in rw e refl)

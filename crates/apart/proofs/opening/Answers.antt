-- Three settings, each a line where it differs: `filled_more`, twice. Each line fits: `setting_short`.
-- Assumes nothing.
use mathlib.Core.Path.{◌≡◌}
use native.Mathlib.Omega.{arith}
use lib.ListN.{length}
use borrow.Author.Rules.{rules}
use Rattle.report.specs.Text.{ascii}
use Rattle.report.proofs.Filled.{filled_more}
use Rattle.apart.specs.Text.{opening_text}
use Rattle.apart.proofs.Lengths.{filled_length, setting_short, filled_front}
use Rattle.apart.proofs.opening.Goals as goal

pub put_setting-lo-requires : goal.put_setting-lo-requires
put_setting-lo-requires c =
    let room : length c.args.room.now ≡ 528 = search rules in
    omega (arith, setting_short (ascii "mtu ") c.args.first.mtu c.args.second.mtu (omega arith) (search rules) (search rules))

pub put_setting-hi-requires : goal.put_setting-hi-requires
put_setting-hi-requires c =
    let room : length c.args.room.now ≡ 528 = search rules in
    let mtu = setting_short (ascii "mtu ") c.args.first.mtu c.args.second.mtu (omega arith) (search rules) (search rules) in
    let lo = setting_short (ascii "loLimit ") c.args.first.lo c.args.second.lo (omega arith) (search rules) (search rules) in
    let w = c.put_setting-lo.ensures in
    omega (arith, lo, mtu, w.value, filled_length _ _ _ _ _ (w.value, w.s_after) (omega (arith, mtu, w.value)))

pub put_setting-requires : goal.put_setting-requires
put_setting-requires c =
    let room : length c.args.room.now ≡ 528 = search rules in
    let mtu = setting_short (ascii "mtu ") c.args.first.mtu c.args.second.mtu (omega arith) (search rules) (search rules) in
    let lo = setting_short (ascii "loLimit ") c.args.first.lo c.args.second.lo (omega arith) (search rules) (search rules) in
    let hi = setting_short (ascii "hiLimit ") c.args.first.hi c.args.second.hi (omega arith) (search rules) (search rules) in
    let w = c.put_setting-lo.ensures in
    let v = c.put_setting-hi.ensures in
    let l = filled_length _ _ _ _ _ (w.value, w.s_after) (omega (arith, mtu, w.value)) in
    omega (arith, hi, lo, mtu, w.value, v.value, l, filled_length _ _ _ _ _ (v.value, v.s_after) (omega (arith, l, mtu, lo, w.value, v.value)))

pub returns : goal.returns
unfolding opening_text
returns c =
    let room : length c.args.room.now ≡ 528 = search rules in
    let mtu = setting_short (ascii "mtu ") c.args.first.mtu c.args.second.mtu (omega arith) (search rules) (search rules) in
    let lo = setting_short (ascii "loLimit ") c.args.first.lo c.args.second.lo (omega arith) (search rules) (search rules) in
    let hi = setting_short (ascii "hiLimit ") c.args.first.hi c.args.second.hi (omega arith) (search rules) (search rules) in
    let w = c.put_setting-lo.ensures in
    let v = c.put_setting-hi.ensures in
    let u = c.put_setting.ensures in
    let f = filled_front _ _ _ _
    (filled_more _ _ _ _ _ _ _ _
    (filled_more _ _ _ _ _ _ _ _ (w.value, w.s_after) (v.value, v.s_after) (omega (arith, mtu, lo, w.value, v.value)))
    (u.value, u.s_after)
    (omega (arith, mtu, lo, hi, w.value, v.value, u.value))) in
    record { value = f.0; room_after = f.1 }

-- The rows are tried in their order: each return is one of them.
-- Assumes nothing.
use mathlib.Core.Path.{sym, ◌∙◌}
use Rattle.decide.specs.Test.{left, taken}
use Rattle.decide.specs.Hops.{in_ring}
use Rattle.heard.specs.Range.{ttl_ok, hops_of}
use Rattle.station.specs.Range.{station_ok}
use Rattle.station.proofs.Hear.{listen_own, listen_lost, listen_far, listen_beyond, listen_self, listen_done}
use Rattle.std.proofs.lemmas.Bool.{not_from_false, not_from_true}
use Rattle.station.proofs.Station.listen.Goals as goal

pub returns-then-is_own_ringlet : goal.returns-then-is_own_ringlet
returns-then-is_own_ringlet c =
    let x = c.args in
    let st = x.self in
    rw c.into.ensures
    (sym (listen_own st x.said (sym c.is_own_ringlet.ensures ∙ c.if-is_own_ringlet.true)))

pub returns-then-not-good : goal.returns-then-not-good
returns-then-not-good c =
    let x = c.args in
    let st = x.self in
    let out = taken (station_ok st) c.requires (not_from_false x.good c.if-not-good.true) in
    rw c.into-then-not-good.ensures
    (sym (listen_lost st x.said (sym c.is_own_ringlet.ensures ∙ c.if-is_own_ringlet.false) out))

pub returns-then-not-ttl_ok : goal.returns-then-not-ttl_ok
returns-then-not-ttl_ok c =
    let x = c.args in
    let st = x.self in
    -- what each test that was passed says: the ringlet bit is another,
    let other_bit = sym c.is_own_ringlet.ensures ∙ c.if-is_own_ringlet.false in
    -- the station is in range
    let in_range = left (station_ok st) c.requires (not_from_true x.good c.if-not-good.false) in
    rw c.into-then-not-ttl_ok.ensures
    (sym (listen_far st x.said other_bit in_range (taken (ttl_ok x.said.ttl) c.ttl_ok.ensures (not_from_false c.ttl_ok.result c.if-not-ttl_ok.true))))

pub returns-then-not-ttl_in_ring : goal.returns-then-not-ttl_in_ring
returns-then-not-ttl_in_ring c =
    let x = c.args in
    let st = x.self in
    let other_bit = sym c.is_own_ringlet.ensures ∙ c.if-is_own_ringlet.false in
    let in_range = left (station_ok st) c.requires (not_from_true x.good c.if-not-good.false) in
    -- so is the ttl
    let ttl_in_range = left (ttl_ok x.said.ttl) c.ttl_ok.ensures (not_from_true c.ttl_ok.result c.if-not-ttl_ok.false) in
    rw c.into-then-not-ttl_in_ring.ensures
    (sym
    (listen_beyond st x.said other_bit in_range ttl_in_range
    (taken (in_ring st.settings.site.stations (hops_of x.said.ttl)) c.ttl_in_ring.ensures (not_from_false c.ttl_in_ring.result c.if-not-ttl_in_ring.true))))

pub returns-then-is_own_address : goal.returns-then-is_own_address
returns-then-is_own_address c =
    let x = c.args in
    let st = x.self in
    let other_bit = sym c.is_own_ringlet.ensures ∙ c.if-is_own_ringlet.false in
    let in_range = left (station_ok st) c.requires (not_from_true x.good c.if-not-good.false) in
    let ttl_in_range = left (ttl_ok x.said.ttl) c.ttl_ok.ensures (not_from_true c.ttl_ok.result c.if-not-ttl_ok.false) in
    -- and its hops are within the ring
    let within = left (in_ring st.settings.site.stations (hops_of x.said.ttl)) c.ttl_in_ring.ensures (not_from_true c.ttl_in_ring.result c.if-not-ttl_in_ring.false) in
    rw c.into-then-is_own_address.ensures
    (sym (listen_self st x.said other_bit in_range ttl_in_range within (sym c.is_own_address.ensures ∙ c.if-is_own_address.true)))

pub returns : goal.returns
returns c =
    let x = c.args in
    let st = x.self in
    let other_bit = sym c.is_own_ringlet.ensures ∙ c.if-is_own_ringlet.false in
    let in_range = left (station_ok st) c.requires (not_from_true x.good c.if-not-good.false) in
    let ttl_in_range = left (ttl_ok x.said.ttl) c.ttl_ok.ensures (not_from_true c.ttl_ok.result c.if-not-ttl_ok.false) in
    let within = left (in_ring st.settings.site.stations (hops_of x.said.ttl)) c.ttl_in_ring.ensures (not_from_true c.ttl_in_ring.result c.if-not-ttl_in_ring.false) in
    rw c.changed.ensures
    (sym (listen_done st x.said other_bit in_range ttl_in_range within (sym c.is_own_address.ensures ∙ c.if-is_own_address.false)))

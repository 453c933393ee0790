use Rattle.std.proofs.Common.{◌≡◌, false, Option, None, Some, ℕ, IsTrue, sym, ap, ◌∙◌, not}
use Rattle.std.specs.Option.{is_some}
use Rattle.hd_volume.proofs.JoinLemmas.{read-one}
use Rattle.hd_index_blocks.specs.Maps.{address_from}
use Rattle.hd_index_blocks.specs.IndexSets.{index_entries}
use Rattle.hd_index.proofs.Leading.{none-from}
use Rattle.hd_index.proofs.Searching.{set-same, sight-same}
use Rattle.hd_index.proofs.search.is_above_all.Goals as goal

is-none : (o : Option ℕ) → is_some o ≡ false → o ≡ None
is-none None e = cc
is-none (Some i) e = absurd (cc)

pub returns-clause-value : goal.returns-clause-value
returns-clause-value g c sound x above =
    let v = c.args.volume.now in
    let w = c.look_up.new.volume in
    let key = c.args.key.now in
    let k : ℕ = c.args.key_length in
    let now : IsTrue w.is_sound = rw c.in_ok-sight.ensures.read.call.sound sound in
    let one = read-one c.in_ok-sight.ensures.read now in
    let same = set-same k v w one x in
    let found = c.in_ok-found.ensures.value now same.0 (sight-same k v w key c.in_ok-sight.sight one x (c.in_ok-sight.ensures.value sound x)) in
    none-from key (index_entries k v) (ap (address_from key) (sym same.1) ∙ sym found ∙ is-none c.in_ok-found.found (c.is_none.ensures ∙ ap not above))

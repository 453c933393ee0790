use Rattle.std.proofs.Common.{◌≡◌, ℕ, IsTrue, Option, sym, ap, ◌∙◌, subst}
use Rattle.std.specs.Prelude.{option_map}
use Rattle.std.specs.Option.{is_some}
use Rattle.hd_index_blocks.specs.Maps.{address_of, address_from}
use Rattle.hd_index_blocks.specs.IndexSets.{index_entries, HasIndexSet}
use Rattle.hd_volume.proofs.JoinLemmas.{read-one}
use Rattle.hd_index.proofs.Searching.{set-same, sight-same}
use Rattle.hd_index.specs.declared.search.RootFrom.{RootFrom}
use Rattle.hd_index.proofs.search.next_from.Goals as goal

pub returns-in_default-clause-value : goal.returns-in_default-clause-value
returns-in_default-clause-value g c sound is =
    let v = c.args.volume.now in
    let w = c.look_up.new.volume in
    let key = c.args.key.now in
    let k : ℕ = c.root_key_length-key_length.result in
    let H : ℕ → Type 0 = λ i. HasIndexSet i v in
    let x : HasIndexSet k v = subst H (sym c.root_key_length-key_length.ensures.value) is.index in
    let now : IsTrue w.is_sound = rw c.in_ok-sight.ensures.read.call.sound sound in
    let one = read-one c.in_ok-sight.ensures.read now in
    let same = set-same k v w one x in
    sym c.in_default.is
    ∙ c.in_ok-address.ensures.value now same.0 (sight-same k v w key c.in_ok-sight.sight one x (c.in_ok-sight.ensures.value sound x)) ∙ ap (address_from key) same.1
    ∙ ap (λ (i : ℕ). address_from key (index_entries i v)) c.root_key_length-key_length.ensures.value

pub returns-clause-value : goal.returns-clause-value
returns-clause-value g c sound is =
    let v = c.args.volume.now in
    let w = c.look_up.new.volume in
    let key = c.args.key.now in
    let k : ℕ = c.root_key_length-key_length.result in
    let H : ℕ → Type 0 = λ i. HasIndexSet i v in
    let x : HasIndexSet k v = subst H (sym c.root_key_length-key_length.ensures.value) is.index in
    let now : IsTrue w.is_sound = rw c.in_ok-sight.ensures.read.call.sound sound in
    let one = read-one c.in_ok-sight.ensures.read now in
    let same = set-same k v w one x in
    sym c.in-Some.is
    ∙ c.in_ok-address.ensures.value now same.0 (sight-same k v w key c.in_ok-sight.sight one x (c.in_ok-sight.ensures.value sound x)) ∙ ap (address_from key) same.1
    ∙ ap (λ (i : ℕ). address_from key (index_entries i v)) c.root_key_length-key_length.ensures.value

pub returns-clause-equal : goal.returns-clause-equal
returns-clause-equal g c sound is =
    let v = c.args.volume.now in
    let key = c.args.key.now in
    let k : ℕ = c.root_key_length-key_length.result in
    let H : ℕ → Type 0 = λ i. HasIndexSet i v in
    let x : HasIndexSet k v = subst H (sym c.root_key_length-key_length.ensures.value) is.index in
    c.is_some-is_equal.ensures
    ∙ ap (λ (o : Option ℕ). is_some o)
    ((c.in_ok-sight.ensures.value sound x).equal ∙ ap (λ (i : ℕ). address_of key (index_entries i v)) c.root_key_length-key_length.ensures.value)

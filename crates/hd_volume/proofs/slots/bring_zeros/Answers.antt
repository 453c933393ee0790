use Rattle.std.proofs.Common.{◌≡◌, ℕ, List, ◌∷◌, vec_len, replicate, sym, ap, ◌∙◌, arith}
use Rattle.std.specs.List.{AllByRecursion}
use Rattle.hd_bytes.specs.Blocks.{block_of}
use Rattle.hd_volume.specs.Buffers.{IsBlockLong, HoldsNot, AreLater}
use Rattle.hd_volume.proofs.BufferLemmas.{other-put_in}
use Rattle.hd_volume.proofs.AsideLemmas.{IsBrought, all-turned, later-turned, put-turned, later-brought, put-brought, written-brought, slots-turned}
use Rattle.hd_volume.proofs.slots.bring_zeros.Goals as goal

pub returns-then-turn_to-clause-contents : goal.returns-then-turn_to-clause-contents
returns-then-turn_to-clause-contents g c sound = put-turned c.turn_to.ensures.turned c.requires.len (c.requires.ready sound)

pub returns-then-turn_to-clause-ready : goal.returns-then-turn_to-clause-ready
returns-then-turn_to-clause-ready g c sound = later-turned c.turn_to.ensures.turned (c.requires.ready sound)

pub returns-then-turn_to-clause-len : goal.returns-then-turn_to-clause-len
returns-then-turn_to-clause-len g c = all-turned (IsBlockLong (g.S.BlockStore.size c.args.store.now)) c.turn_to.ensures.turned c.requires.len

pub write_back-requires-clause-len : goal.write_back-requires-clause-len
write_back-requires-clause-len g c = (all-turned (IsBlockLong (g.S.BlockStore.size c.args.store.now)) c.turn_to.ensures.turned c.requires.len).0

pub write_back-requires-clause-ready : goal.write_back-requires-clause-ready
write_back-requires-clause-ready g c sound = (later-turned c.turn_to.ensures.turned (c.requires.ready sound)).each.0

pub returns-in_err-write_back-clause-len : goal.returns-in_err-write_back-clause-len
returns-in_err-write_back-clause-len g c =
    let len = all-turned (IsBlockLong (g.S.BlockStore.size c.args.store.now)) c.turn_to.ensures.turned c.requires.len in
    (ap vec_len c.write_back.ensures.bytes ∙ len.0, len.1)

pub returns-clause-len : goal.returns-clause-len
returns-clause-len g c =
    let len = all-turned (IsBlockLong (g.S.BlockStore.size c.args.store.now)) c.turn_to.ensures.turned c.requires.len in
    (c.hold_zeros.ensures.len ∙ ap vec_len c.write_back.ensures.bytes ∙ len.0, len.1)

pub returns-clause-contents : goal.returns-clause-contents
returns-clause-contents g c sound =
    let size : ℕ = g.S.BlockStore.size c.args.store.now in
    let contents : List ℕ = g.S.BlockStore.contents c.args.store.now in
    let len : AllByRecursion (IsBlockLong size) (c.turn_to.new.hand ∷ c.turn_to.new.aside) = all-turned (IsBlockLong size) c.turn_to.ensures.turned c.requires.len in
    let later : AreLater size contents (c.turn_to.new.hand ∷ c.turn_to.new.aside) = later-turned c.turn_to.ensures.turned (c.requires.ready sound) in
    let none : AllByRecursion (HoldsNot c.args.n) (c.turn_to.new.hand ∷ c.turn_to.new.aside) = c.turn_to.ensures.none c.if-turn_to.false (c.requires.slots sound) in
    let there = c.requires.there sound in
    let same : c.hold_zeros.new.buffer.bytes.items ≡ block_of size contents c.args.n =
    c.hold_zeros.ensures.bytes ∙ ap (λ (k : ℕ). replicate k 0) (ap vec_len c.write_back.ensures.bytes ∙ len.0) ∙ sym (c.requires.zeros sound) in
    let b : IsBrought size contents (g.S.BlockStore.contents c.write_back.new.store) c.turn_to.new.hand c.hold_zeros.new.buffer c.turn_to.new.aside =
    written-brought len.0 later.each.0 (c.in_ok-write_back.ensures.contents sound) none (λ e. let some = there.0 in omega arith) there.1 c.hold_zeros.ensures.number same c.hold_zeros.ensures.unchanged in
    put-brought later b len (c.hold_zeros.ensures.len ∙ ap vec_len c.write_back.ensures.bytes ∙ len.0) ∙ put-turned c.turn_to.ensures.turned c.requires.len (c.requires.ready sound)

pub returns-clause-ready : goal.returns-clause-ready
returns-clause-ready g c sound =
    let size : ℕ = g.S.BlockStore.size c.args.store.now in
    let contents : List ℕ = g.S.BlockStore.contents c.args.store.now in
    let len : AllByRecursion (IsBlockLong size) (c.turn_to.new.hand ∷ c.turn_to.new.aside) = all-turned (IsBlockLong size) c.turn_to.ensures.turned c.requires.len in
    let later : AreLater size contents (c.turn_to.new.hand ∷ c.turn_to.new.aside) = later-turned c.turn_to.ensures.turned (c.requires.ready sound) in
    let none : AllByRecursion (HoldsNot c.args.n) (c.turn_to.new.hand ∷ c.turn_to.new.aside) = c.turn_to.ensures.none c.if-turn_to.false (c.requires.slots sound) in
    let there = c.requires.there sound in
    let same : c.hold_zeros.new.buffer.bytes.items ≡ block_of size contents c.args.n =
    c.hold_zeros.ensures.bytes ∙ ap (λ (k : ℕ). replicate k 0) (ap vec_len c.write_back.ensures.bytes ∙ len.0) ∙ sym (c.requires.zeros sound) in
    let b : IsBrought size contents (g.S.BlockStore.contents c.write_back.new.store) c.turn_to.new.hand c.hold_zeros.new.buffer c.turn_to.new.aside =
    written-brought len.0 later.each.0 (c.in_ok-write_back.ensures.contents sound) none (λ e. let some = there.0 in omega arith) there.1 c.hold_zeros.ensures.number same c.hold_zeros.ensures.unchanged in
    later-brought later b len (c.hold_zeros.ensures.len ∙ ap vec_len c.write_back.ensures.bytes ∙ len.0)

pub returns-clause-first : goal.returns-clause-first
returns-clause-first g c sound =
    let size : ℕ = g.S.BlockStore.size c.args.store.now in
    let contents : List ℕ = g.S.BlockStore.contents c.args.store.now in
    let len : AllByRecursion (IsBlockLong size) (c.turn_to.new.hand ∷ c.turn_to.new.aside) = all-turned (IsBlockLong size) c.turn_to.ensures.turned c.requires.len in
    let later : AreLater size contents (c.turn_to.new.hand ∷ c.turn_to.new.aside) = later-turned c.turn_to.ensures.turned (c.requires.ready sound) in
    record {
      len = let n = c.in_ok-write_back.ensures.length sound in omega arith;
      first = λ there.
          ap (λ (t : List ℕ). block_of size t 0) (c.in_ok-write_back.ensures.contents sound)
          ∙ other-put_in size contents c.turn_to.new.hand 0 len.0 later.each.0 there (λ holds e. later.later.0 holds (sym e));
    }

pub returns-then-turn_to-clause-slots : goal.returns-then-turn_to-clause-slots
returns-then-turn_to-clause-slots g c sound = rw (c.turn_to.ensures.found c.if-turn_to.true).1 (slots-turned c.turn_to.ensures.turned (c.requires.slots sound))

pub returns-clause-slots : goal.returns-clause-slots
returns-clause-slots g c sound = rw c.hold_zeros.ensures.number (slots-turned c.turn_to.ensures.turned (c.requires.slots sound))

use Rattle.std.proofs.Common.{ℕ, ◌∷◌, ◌∙◌, arith}
use Rattle.std.specs.List.{AllByRecursion}
use Rattle.hd_volume.specs.Buffers.{IsBlockLong, HoldsNot, AreLater, IsInBytes}
use Rattle.hd_volume.proofs.AsideLemmas.{IsBrought, all-turned, later-turned, put-turned, later-brought, put-brought, slots-turned}
use Rattle.hd_volume.proofs.slots.bring_other.Goals as goal

pub returns-then-turn_to-clause-contents : goal.returns-then-turn_to-clause-contents
returns-then-turn_to-clause-contents g c sound = put-turned c.turn_to.ensures.turned c.requires.len (c.requires.ready sound)

pub returns-then-turn_to-clause-ready : goal.returns-then-turn_to-clause-ready
returns-then-turn_to-clause-ready g c sound = later-turned c.turn_to.ensures.turned (c.requires.ready sound)

pub returns-then-turn_to-clause-len : goal.returns-then-turn_to-clause-len
returns-then-turn_to-clause-len g c = all-turned (IsBlockLong (g.S.BlockStore.size c.args.store.now)) c.turn_to.ensures.turned c.requires.len

pub bring-requires-clause-len : goal.bring-requires-clause-len
bring-requires-clause-len g c = (all-turned (IsBlockLong (g.S.BlockStore.size c.args.store.now)) c.turn_to.ensures.turned c.requires.len).0

pub bring-requires-clause-ready : goal.bring-requires-clause-ready
bring-requires-clause-ready g c sound = (later-turned c.turn_to.ensures.turned (c.requires.ready sound)).each.0

pub returns-in_err-bring-clause-len : goal.returns-in_err-bring-clause-len
returns-in_err-bring-clause-len g c = (c.bring.ensures.len, (all-turned (IsBlockLong (g.S.BlockStore.size c.args.store.now)) c.turn_to.ensures.turned c.requires.len).1)

pub returns-clause-contents : goal.returns-clause-contents
returns-clause-contents g c sound =
    let size : ℕ = g.S.BlockStore.size c.args.store.now in
    let len : AllByRecursion (IsBlockLong size) (c.turn_to.new.hand ∷ c.turn_to.new.aside) = all-turned (IsBlockLong size) c.turn_to.ensures.turned c.requires.len in
    let later : AreLater size (g.S.BlockStore.contents c.args.store.now) (c.turn_to.new.hand ∷ c.turn_to.new.aside) = later-turned c.turn_to.ensures.turned (c.requires.ready sound) in
    let none : AllByRecursion (HoldsNot c.args.n) (c.turn_to.new.hand ∷ c.turn_to.new.aside) = c.turn_to.ensures.none c.if-turn_to.false (c.requires.slots sound) in
    let b : IsBrought size (g.S.BlockStore.contents c.args.store.now) (g.S.BlockStore.contents c.bring.new.store) c.turn_to.new.hand c.bring.new.buffer c.turn_to.new.aside =
    record {
      len = c.in_ok-bring.ensures.length sound;
      buffer = c.in_ok-bring.ensures.ready sound;
      same = c.in_ok-bring.ensures.contents sound;
      later = λ e. let n = (c.requires.there sound).0 in let h = c.in_ok-bring.ensures.holds.1 in omega arith;
      other = rw c.in_ok-bring.ensures.holds.1 none.1;
    } in
    put-brought later b len c.bring.ensures.len ∙ put-turned c.turn_to.ensures.turned c.requires.len (c.requires.ready sound)

pub returns-clause-ready : goal.returns-clause-ready
returns-clause-ready g c sound =
    let size : ℕ = g.S.BlockStore.size c.args.store.now in
    let len : AllByRecursion (IsBlockLong size) (c.turn_to.new.hand ∷ c.turn_to.new.aside) = all-turned (IsBlockLong size) c.turn_to.ensures.turned c.requires.len in
    let later : AreLater size (g.S.BlockStore.contents c.args.store.now) (c.turn_to.new.hand ∷ c.turn_to.new.aside) = later-turned c.turn_to.ensures.turned (c.requires.ready sound) in
    let none : AllByRecursion (HoldsNot c.args.n) (c.turn_to.new.hand ∷ c.turn_to.new.aside) = c.turn_to.ensures.none c.if-turn_to.false (c.requires.slots sound) in
    let b : IsBrought size (g.S.BlockStore.contents c.args.store.now) (g.S.BlockStore.contents c.bring.new.store) c.turn_to.new.hand c.bring.new.buffer c.turn_to.new.aside =
    record {
      len = c.in_ok-bring.ensures.length sound;
      buffer = c.in_ok-bring.ensures.ready sound;
      same = c.in_ok-bring.ensures.contents sound;
      later = λ e. let n = (c.requires.there sound).0 in let h = c.in_ok-bring.ensures.holds.1 in omega arith;
      other = rw c.in_ok-bring.ensures.holds.1 none.1;
    } in
    later-brought later b len c.bring.ensures.len

pub returns-clause-first : goal.returns-clause-first
returns-clause-first g c sound =
    let later : AreLater (g.S.BlockStore.size c.args.store.now) (g.S.BlockStore.contents c.args.store.now) (c.turn_to.new.hand ∷ c.turn_to.new.aside) = later-turned c.turn_to.ensures.turned (c.requires.ready sound) in
    record { len = let n = c.in_ok-bring.ensures.length sound in omega arith; first = λ there. c.in_ok-bring.ensures.first sound there later.later.0 }

pub returns-clause-stands : goal.returns-clause-stands
returns-clause-stands g c sound all = c.in_ok-bring.ensures.stands sound (all-turned (IsInBytes (g.S.BlockStore.size c.args.store.now) (g.S.BlockStore.contents c.args.store.now)) c.turn_to.ensures.turned all).0

pub returns-clause-len : goal.returns-clause-len
returns-clause-len g c = (c.bring.ensures.len, (all-turned (IsBlockLong (g.S.BlockStore.size c.args.store.now)) c.turn_to.ensures.turned c.requires.len).1)

pub returns-then-turn_to-clause-slots : goal.returns-then-turn_to-clause-slots
returns-then-turn_to-clause-slots g c sound = rw (c.turn_to.ensures.found c.if-turn_to.true).1 (slots-turned c.turn_to.ensures.turned (c.requires.slots sound))

pub returns-clause-slots : goal.returns-clause-slots
returns-clause-slots g c sound = rw c.in_ok-bring.ensures.holds.1 (slots-turned c.turn_to.ensures.turned (c.requires.slots sound))

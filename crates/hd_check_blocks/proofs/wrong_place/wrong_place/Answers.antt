use Rattle.std.proofs.Common.{◌≡◌, ◌+◌, ◌++◌, ◌∷◌, [], slice_index, ℕ, List, inl, inr, refl, arith, rules, sym, ap, subst, ◌∙◌}
use Rattle.std.proofs.lemmas.Bool.{cases_eq}
use Rattle.hd_bytes.specs.Numbers.{number_at}
use Rattle.hd_block.specs.Walk.{parts_in}
use Rattle.hd_image.specs.BlockFaults.{HasFreeElements}
use Rattle.hd_check_blocks.specs.declared.places.Place.{Place}
use Rattle.hd_check_blocks.specs.declared.wrong_place.Reading.{Reading}
use Rattle.hd_check_blocks.specs.Places.{places_in}
use Rattle.hd_check_blocks.proofs.Readings.{IsReadUpTo, at-first, at-end, past-free, past-used, no-room}
use Rattle.hd_check_blocks.proofs.NotedParts.{places_from, noted-free, noted-used, noted-all}
use Rattle.hd_check_blocks.proofs.wrong_place.wrong_place.Goals as goal
use Rattle.hd_dbd.specs.declared.facts.SegmentSize.{SegmentSize}
use Rattle.hd_block.specs.Sizes.{size_at}

pub reading-init : goal.reading-init
reading-init c =
    let sizes : List SegmentSize = c.args.sizes.now in
    let block : List ℕ = c.args.block.now in
    record {
      read = λ places h. subst (λ (n : ℕ). IsReadUpTo sizes block places 8 n) (sym c.read_u16.ensures) (at-first sizes block places c.requires.size.0 h);
      noted = ap (λ (n : ℕ). c.args.places.now.items ++ places_from sizes block c.args.first 8 n) c.read_u16.ensures;
    }

pub behind-requires : goal.behind-requires
behind-requires c =
    let chain = c.requires.chain in
    let read = c.reading.invariant.read chain.0 chain.1 in
    let eighth = read.eighth in
    search arith

pub returns-in_default-clause-some : goal.returns-in_default-clause-some
returns-in_default-clause-some c = λ places h.
    let sizes : List SegmentSize = c.args.sizes.now in
    let r = c.reading.invariant.read places h in
    elim (cases_eq c.reading.at.place c.reading.at.next) [
      | inl e ↦ absurd (let s = sym c.in_default.is ∙ c.behind.ensures.free e in cc)
      | inr ne ↦ (
        r.way,
        r.read,
        c.reading-test.true,
        no-room sizes c.args.block.now places c.reading.at.place c.reading.at.next (size_at sizes c.args.block.now c.reading.at.place) r ne refl (c.in_default.ensures.used ne),
      )
    ]

pub returns-clause-none : goal.returns-clause-none
returns-clause-none c =
    let chain = c.requires.chain in
    at-end c.args.sizes.now c.args.block.now chain.0 c.reading.at.place c.reading.at.next (c.reading.invariant.read chain.0 chain.1) c.reading-test.false

pub returns-clause-places : goal.returns-clause-places
returns-clause-places c =
    noted-all c.args.sizes.now c.args.block.now c.args.first c.reading.at.place c.reading.at.next c.reading.places.items _ c.reading-test.false c.reading.invariant.noted

-- behind a segment
pub reading-preserved-in_ok-map_err : goal.reading-preserved-in_ok-map_err
reading-preserved-in_ok-map_err c =
    let sizes : List SegmentSize = c.args.sizes.now in
    let block : List ℕ = c.args.block.now in
    let place : ℕ = c.reading.at.place in
    let next : ℕ = c.reading.at.next in
    let room = c.in-Some.ensures.used c.if-at.true in
    let size : ℕ = size_at sizes block place in
    let all : List Place = c.args.places.now.items ++ places_in block c.args.first (parts_in sizes block) in
    record {
      read = λ places h. subst (λ (x : Reading). IsReadUpTo sizes block places x.place x.next) (sym room.1)
          (past-used sizes block places place next size (c.reading.invariant.read places h) c.reading-test.true c.if-at.true refl (c.requires.eighths block place) room.0);
      noted =
          (let noted : Place = record { address = c.args.first + place; code = slice_index block place } in
          let pushed : c.push.new.self.items ≡ c.reading.places.items ++ noted ∷ [] = search rules in
          subst (λ (x : Reading). c.push.new.self.items ++ places_from sizes block c.args.first x.place x.next ≡ all) (sym room.1)
          (subst (λ (ps : List Place). ps ++ places_from sizes block c.args.first (place + size) next ≡ all) (sym pushed)
          (noted-used sizes block c.args.first place next size c.reading.places.items all c.if-at.true refl (c.requires.eighths block place) room.0 c.reading.invariant.noted)));
    }

-- behind a free element
pub reading-preserved : goal.reading-preserved
reading-preserved c =
    let sizes : List SegmentSize = c.args.sizes.now in
    let block : List ℕ = c.args.block.now in
    let place : ℕ = c.reading.at.place in
    let all : List Place = c.args.places.now.items ++ places_in block c.args.first (parts_in sizes block) in
    let here : place ≡ c.reading.at.next = c.if-at.false in
    let behind : c.in-Some.next ≡ record { place = place + number_at 2 block (place + 2); next = number_at 2 block place } = (let s = sym c.in-Some.is ∙ c.behind.ensures.free here in cc) in
    let past = λ (places : List ℕ) (h : HasFreeElements block places). past-free sizes block places place
    (subst (λ (n : ℕ). IsReadUpTo sizes block places place n) (sym here) (c.reading.invariant.read places h)) c.reading-test.true in
    let chain = c.requires.chain in
    let own = past chain.0 chain.1 in
    record {
      read = λ places h. subst (λ (x : Reading). IsReadUpTo sizes block places x.place x.next) (sym behind) (past places h).1;
      noted = subst (λ (x : Reading). c.reading.places.items ++ places_from sizes block c.args.first x.place x.next ≡ all) (sym behind)
          (noted-free sizes block c.args.first place c.reading.at.next c.reading.places.items all here own.0 own.1.within c.reading.invariant.noted);
    }

pub reading-smaller : goal.reading-smaller
reading-smaller c =
    let sizes : List SegmentSize = c.args.sizes.now in
    let block : List ℕ = c.args.block.now in
    let place : ℕ = c.reading.at.place in
    let here : place ≡ c.reading.at.next = c.if-at.false in
    let behind : c.in-Some.next ≡ record { place = place + number_at 2 block (place + 2); next = number_at 2 block place } = (let s = sym c.in-Some.is ∙ c.behind.ensures.free here in cc) in
    let chain = c.requires.chain in
    let own = past-free sizes block chain.0 place (subst (λ (n : ℕ). IsReadUpTo sizes block chain.0 place n) (sym here) (c.reading.invariant.read chain.0 chain.1)) c.reading-test.true in
    let some = own.0 in
    let at : c.in-Some.next.place ≡ place + number_at 2 block (place + 2) = ap (λ (x : Reading). x.place) behind in
    omega arith

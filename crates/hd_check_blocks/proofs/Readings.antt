-- A data block with a right chain of free elements, as it is read from place to place.
use Rattle.std.proofs.Common.{◌≡◌, ◌≢◌, ◌⊎◌, inl, inr, ℕ, ◌+◌, ◌%◌, ◌<◌, ◌≤◌, List, [], ◌∷◌, ◌++◌, length, slice_index, refl, sym, ap, subst, arith}
use Rattle.hd_bytes.specs.Numbers.{number_at}
use Rattle.hd_block.specs.Extents.{Extent, free, used, Fill, AreWhole}
use Rattle.hd_volume.specs.Volumes.{HasExtents}
use Rattle.hd_volume.specs.Indexes.{IsAmong}
use Rattle.hd_image.specs.BlockFaults.{IsElementAt, AreFreeElements, HasFreeElements, IsNoSegment, IsStep, IsReadTo}
use Rattle.hd_check_blocks.specs.Reading.{IsRoom}
use Rattle.hd_dbd.specs.declared.facts.SegmentSize.{SegmentSize}
use Rattle.hd_block.specs.Sizes.{size_at}

-- What is known of a block that was read up to a place, where the next free element begins at `next`: the free elements from
-- there on, that the place was read to, and that what is left gives the extents of all.
pub record IsReadUpTo (sizes : List SegmentSize) (block places : List ℕ) (place next : ℕ) : Type 0 where
  pub end : ℕ
  pub rest : List ℕ
  pub chain : AreFreeElements block end next rest
  pub past : end ≤ place
  pub ahead : (next ≡ 0) ⊎ (place ≤ next)
  pub among : (q : ℕ) → place ≤ q → IsAmong q places → IsAmong q rest
  pub back : (q : ℕ) → IsAmong q rest → IsAmong q places
  pub way : List ℕ
  pub read : IsReadTo sizes block places 8 way place
  pub eighth : place % 8 ≡ 0
  pub first : 8 ≤ place
  pub within : place ≤ length block
  pub fill : (xs : List Extent) → Fill sizes block place next xs → AreWhole xs → HasExtents sizes block

-- at the beginning
pub at-first : (sizes : List SegmentSize) (block places : List ℕ) → 8 ≤ length block → HasFreeElements block places → IsReadUpTo sizes block places 8 (number_at 2 block 0)
at-first sizes block places long chain = record {
  end = 7;
  rest = places;
  chain = chain;
  past = omega arith;
  ahead = from-first places chain;
  among = λ q l i. i;
  back = λ q i. i;
  way = [];
  read = refl;
  eighth = refl;
  first = omega arith;
  within = long;
  fill = λ xs f w. record { extents = xs; divides = f; whole = w };
}
  where
    from-first : (ps : List ℕ) → AreFreeElements block 7 (number_at 2 block 0) ps → (number_at 2 block 0 ≡ 0) ⊎ (8 ≤ number_at 2 block 0)
    from-first [] h = inl h
    from-first (p ∷ ps) h = (let e = h.0 in let l = h.1 in inr (omega arith))

-- none of the free elements from a number on stands before it
not-before : (block : List ℕ) (end next : ℕ) (ps : List ℕ) (q : ℕ) → AreFreeElements block end next ps → IsAmong q ps → next ≤ q
not-before block end next [] q h i = absurd i
not-before block end next (p ∷ ps) q h (inl e) = (let f = h.0 in omega arith)
not-before block end next (p ∷ ps) q h (inr i) = (let f = h.0 in let some = h.2.element.some in let l = behind-end (p + number_at 2 block (p + 2)) (number_at 2 block p) ps h.3 i in omega arith)
  where
    behind-end : (e n : ℕ) (rs : List ℕ) → AreFreeElements block e n rs → IsAmong q rs → e < q
    behind-end e n [] k j = absurd j
    behind-end e n (r ∷ rs) k (inl is) = (let l = k.1 in omega arith)
    behind-end e n (r ∷ rs) k (inr j) = (let l = k.1 in let s = k.2.element.some in let m = behind-end (r + number_at 2 block (r + 2)) (number_at 2 block r) rs k.3 j in omega arith)

-- one place more on the way
read-on : (sizes : List SegmentSize) (block places : List ℕ) (from : ℕ) (way : List ℕ) (place next : ℕ) → IsReadTo sizes block places from way place → IsStep sizes block places place next
    → IsReadTo sizes block places from (way ++ next ∷ []) next
read-on sizes block places from [] place next h s = (subst (λ (p : ℕ). IsStep sizes block places p next) (sym h) s, refl)
read-on sizes block places from (n ∷ way) place next h s = (h.0, read-on sizes block places n way place next h.1 s)

-- where the block ends, its extents are read
pub at-end : (sizes : List SegmentSize) (block places : List ℕ) (place next : ℕ) → IsReadUpTo sizes block places place next → length block ≤ place → HasExtents sizes block
at-end sizes block places place next r over = r.fill [] (place-is, none r.rest r.chain) tt
  where
    place-is : place ≡ length block
    place-is = (let l = r.within in omega arith)

    none : (ps : List ℕ) → AreFreeElements block r.end next ps → next ≡ 0
    none [] h = h
    none (p ∷ ps) h = elim r.ahead [
      | inl z ↦ z
      | inr l ↦ (let e = h.0 in let w = h.2.within in let s = h.2.element.some in absurd (omega arith))
    ]

-- behind a free element
pub past-free : (sizes : List SegmentSize) (block places : List ℕ) (place : ℕ) → IsReadUpTo sizes block places place place → place < length block
    → (8 ≤ number_at 2 block (place + 2)) × IsReadUpTo sizes block places (place + number_at 2 block (place + 2)) (number_at 2 block place)
past-free sizes block places place r inside = go r.rest r.chain r.among r.back
  where
    go : (ps : List ℕ) → AreFreeElements block r.end place ps → ((q : ℕ) → place ≤ q → IsAmong q places → IsAmong q ps) → ((q : ℕ) → IsAmong q ps → IsAmong q places)
        → (8 ≤ number_at 2 block (place + 2)) × IsReadUpTo sizes block places (place + number_at 2 block (place + 2)) (number_at 2 block place)
    go [] h among back = (let l = r.first in absurd (omega arith))
    go (p ∷ ps) h among back = (
      element.element.some,
      record {
        end = place + number_at 2 block (place + 2);
        rest = ps;
        chain = chain;
        past = omega arith;
        ahead = ahead ps chain;
        among = λ q l i. elim (among q (omega arith) i) [ inl e ↦ absurd (let s = element.element.some in let f = h.0 in omega arith) | inr j ↦ j ];
        back = λ q i. back q (inr i);
        way = r.way ++ (place + number_at 2 block (place + 2)) ∷ [];
        read = read-on sizes block places 8 r.way place (place + number_at 2 block (place + 2)) r.read (record {
          some = inside;
          right = λ n. n.apart here;
          free = λ i. refl;
          used = λ n. absurd (n here);
        });
        eighth = (let w = element.element.whole in let e = r.eighth in omega arith);
        first = (let l = r.first in omega arith);
        within = element.within;
        fill = λ xs f w. r.fill (free (number_at 2 block (place + 2)) ∷ xs)
            (refl, record { element = element.element; apart = apart ps chain }, f) w;
      },
    )
      where
        element : IsElementAt block place
        element = subst (IsElementAt block) (sym h.0) h.2

        chain : AreFreeElements block (place + number_at 2 block (place + 2)) (number_at 2 block place) ps
        chain = subst (λ (x : ℕ). AreFreeElements block (x + number_at 2 block (x + 2)) (number_at 2 block x) ps) (sym h.0) h.3

        here : IsAmong place places
        here = back place (inl h.0)

        ahead : (rs : List ℕ) → AreFreeElements block (place + number_at 2 block (place + 2)) (number_at 2 block place) rs → (number_at 2 block place ≡ 0) ⊎ (place + number_at 2 block (place + 2) ≤ number_at 2 block place)
        ahead [] k = inl k
        ahead (x ∷ xs) k = (let e = k.0 in let l = k.1 in inr (omega arith))

        apart : (rs : List ℕ) → AreFreeElements block (place + number_at 2 block (place + 2)) (number_at 2 block place) rs → number_at 2 block place ≢ place + number_at 2 block (place + 2)
        apart [] k = λ e. (let z : number_at 2 block place ≡ 0 = k in let l = r.first in omega arith)
        apart (x ∷ xs) k = λ e. (let f = k.0 in let l = k.1 in omega arith)

-- no free element begins at a place that the next one does not name
not-there : (sizes : List SegmentSize) (block places : List ℕ) (place next : ℕ) → IsReadUpTo sizes block places place next → place ≢ next → IsAmong place places → ⊥
not-there sizes block places place next r other i =
    let j = r.among place (omega arith) i in
    let low = not-before block r.end next r.rest place r.chain j in
    elim r.ahead [
      | inl z ↦ none r.rest r.chain j
      | inr l ↦ other (omega arith)
    ]
  where
    none : (ps : List ℕ) → AreFreeElements block r.end next ps → IsAmong place ps → ⊥
    none [] h j = j
    none (p ∷ ps) h j = elim r.ahead [ inl z ↦ (let e = h.0 in let l = h.1 in absurd (omega arith)) | inr l ↦ other (let m = not-before block r.end next (p ∷ ps) place h j in omega arith) ]

-- behind a segment
pub past-used : (sizes : List SegmentSize) (block places : List ℕ) (place next n : ℕ) → IsReadUpTo sizes block places place next → place < length block → place ≢ next
    → size_at sizes block place ≡ n → n % 8 ≡ 0 → IsRoom block place next n → IsReadUpTo sizes block places (place + n) next
past-used sizes block places place next n r inside other size whole room = record {
  end = r.end;
  rest = r.rest;
  chain = r.chain;
  past = (let p = r.past in omega arith);
  ahead = elim r.ahead [ inl z ↦ inl z | inr l ↦ inr (elim room.before [ inl b ↦ absurd (other (omega arith)) | inr b ↦ b ]) ];
  among = λ q l i. r.among q (omega arith) i;
  back = r.back;
  way = r.way ++ (place + n) ∷ [];
  read = read-on sizes block places 8 r.way place (place + n) r.read (record {
    some = inside;
    right = λ x. x.fits (let s = room.some in omega arith) (let w = room.within in omega arith)
        (λ q i l. (let j = r.among q (omega arith) i in let m = not-before block r.end next r.rest q r.chain j in
        elim room.before [
          | inl b ↦ past-all q j b l
          | inr b ↦ omega arith
        ]));
    free = λ i. absurd (not-there sizes block places place next r other i);
    used = λ x. ap (λ (k : ℕ). place + k) (sym size);
  });
  eighth = (let e = r.eighth in omega arith);
  first = (let l = r.first in omega arith);
  within = room.within;
  fill = λ xs f w. r.fill (used n ∷ xs) (other, record { size = size; some = (let s = room.some in omega arith); whole = whole }, f) w;
}
  where
    past-all : (q : ℕ) → IsAmong q r.rest → next ≤ place → place < q → place + size_at sizes block place ≤ q
    past-all q j b l = elim r.ahead [
      | inl z ↦ absurd (none r.rest r.chain j z)
      | inr m ↦ absurd (other (omega arith))
    ]
      where
        none : (ps : List ℕ) → AreFreeElements block r.end next ps → IsAmong q ps → next ≡ 0 → ⊥
        none [] h k z = k
        none (p ∷ ps) h k z = (let e = h.0 in let s = h.1 in absurd (omega arith))

-- a place where there is no room for a segment
pub no-room : (sizes : List SegmentSize) (block places : List ℕ) (place next n : ℕ) → IsReadUpTo sizes block places place next → place ≢ next
    → size_at sizes block place ≡ n → (IsRoom block place next n → ⊥) → IsNoSegment sizes block places place
no-room sizes block places place next n r other size none = record {
  apart = not-there sizes block places place next r other;
  fits = λ some within before. none (record {
    some = (let e = size in omega arith);
    within = (let e = size in omega arith);
    before = elim r.ahead [
      | inl z ↦ inl (omega arith)
      | inr l ↦ inr (let b = before next (named r.rest r.chain r.back l) (omega arith) in let e = size in omega arith)
    ];
  });
}
  where
    named : (ps : List ℕ) → AreFreeElements block r.end next ps → ((q : ℕ) → IsAmong q ps → IsAmong q places) → place ≤ next → IsAmong next places
    named [] h back l = (let z : next ≡ 0 = h in let f = r.first in absurd (omega arith))
    named (p ∷ ps) h back l = back next (inl h.0)

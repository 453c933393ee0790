-- The segments that are noted from a place of a data block on.
use Rattle.std.proofs.Common.{◌≡◌, ◌≢◌, ℕ, ◌+◌, ◌%◌, ◌≤◌, List, [], ◌∷◌, ◌++◌, length, slice_index, refl, ap, ◌∙◌, sym, append_assoc, append-nil, arith}
use Rattle.hd_bytes.specs.Numbers.{number_at}
use Rattle.hd_block.specs.Sizes.{size_at}
use Rattle.hd_block.specs.Walk.{parts_from}
use Rattle.hd_block.proofs.PartLemmas.{from-free, from-used, from-end}
use Rattle.hd_dbd.specs.declared.facts.SegmentSize.{SegmentSize}
use Rattle.hd_check_blocks.specs.declared.places.Place.{Place}
use Rattle.hd_check_blocks.specs.Places.{places_in}
use Rattle.hd_check_blocks.specs.Reading.{IsRoom}

-- the segments of a block from a place on, where the next free element begins at `next`
abbrev pub places_from : List SegmentSize → List ℕ → ℕ → ℕ → ℕ → List Place
places_from sizes block first place next = places_in block first (parts_from sizes block place next)

-- a free element is not noted
pub noted-free : (sizes : List SegmentSize) (block : List ℕ) (first place next : ℕ) (ps qs : List Place) → place ≡ next → 8 ≤ number_at 2 block (place + 2)
    → place + number_at 2 block (place + 2) ≤ length block → ps ++ places_from sizes block first place next ≡ qs
    → ps ++ places_from sizes block first (place + number_at 2 block (place + 2)) (number_at 2 block place) ≡ qs
noted-free sizes block first place next ps qs here some within all =
    ap (λ parts. ps ++ places_in block first parts) (sym (from-free sizes block place next _ here refl some within)) ∙ all

-- a segment is noted
pub noted-used : (sizes : List SegmentSize) (block : List ℕ) (first place next n : ℕ) (ps qs : List Place) → place ≢ next → n ≡ size_at sizes block place → n % 8 ≡ 0
    → IsRoom block place next n → ps ++ places_from sizes block first place next ≡ qs
    → (ps ++ record { address = first + place; code = slice_index block place } ∷ []) ++ places_from sizes block first (place + n) next ≡ qs
noted-used sizes block first place next n ps qs other size whole room all =
    let some = room.some in
    append_assoc ps _ _
    ∙ ap (λ parts. ps ++ places_in block first parts) (sym (from-used sizes block place next n other size (omega arith) room.within)) ∙ all

-- where the block ends, all are noted
pub noted-all : (sizes : List SegmentSize) (block : List ℕ) (first place next : ℕ) (ps qs : List Place) → length block ≤ place → ps ++ places_from sizes block first place next ≡ qs → ps ≡ qs
noted-all sizes block first place next ps qs over all =
    sym (append-nil ps) ∙ ap (λ parts. ps ++ places_in block first parts) (sym (from-end sizes block place next (omega arith))) ∙ all

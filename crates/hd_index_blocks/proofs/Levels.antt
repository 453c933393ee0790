-- Levels of blocks: lists of them put together, and what stays.
use Rattle.std.proofs.Common.{◌≡◌, ℕ, zero, suc, ◌<◌, List, [], ◌∷◌, ◌++◌, refl, sym, ap, ◌∙◌, arith, subst, true}
use Rattle.std.proofs.lemmas.List.{append_assoc}
use Rattle.hd_volume.specs.Entries.{Entry}
use Rattle.hd_volume.specs.Indexes.{is_below_first, keys_ascend}
use Rattle.hd_index_blocks.specs.Levels.{IndexBlocks, across, named, sequence_set, entries_below, AreUpTo, AreBounds, AreOnLevel, IsIndexSet}
use Rattle.hd_index_blocks.specs.Changes.{Stays, LowerStay, UpperStay, StayBelow, KeepsIndexSet}

pub nil : (x : List Entry) → x ++ [] ≡ x
nil [] = refl
nil (x ∷ xs) = ap (λ (t : List Entry). x ∷ t) (nil xs)

-- ---- put together

pub across-append : (c : IndexBlocks) (xs ys : List ℕ) → across c (xs ++ ys) ≡ across c xs ++ across c ys
across-append c [] ys = refl
across-append c (x ∷ xs) ys = ap (λ (t : List Entry). c.entries x ++ t) (across-append c xs ys) ∙ sym (append_assoc (c.entries x) (across c xs) (across c ys))

pub named-append : (xs ys : List Entry) → named (xs ++ ys) ≡ named xs ++ named ys
named-append [] ys = refl
named-append (x ∷ xs) ys = ap (λ (t : List ℕ). x.address ∷ t) (named-append xs ys)

sequence-append : (c : IndexBlocks) (l : ℕ) (xs ys : List ℕ) → sequence_set c l (xs ++ ys) ≡ sequence_set c l xs ++ sequence_set c l ys
sequence-append c zero xs ys = refl
sequence-append c (suc l) xs ys =
    ap (λ (t : List Entry). sequence_set c l (named t)) (across-append c xs ys)
    ∙ ap (sequence_set c l) (named-append (across c xs) (across c ys))
    ∙ sequence-append c l (named (across c xs)) (named (across c ys))

pub entries-append : (c : IndexBlocks) (l : ℕ) (xs ys : List ℕ) → entries_below c l (xs ++ ys) ≡ entries_below c l xs ++ entries_below c l ys
entries-append c l xs ys = ap (across c) (sequence-append c l xs ys) ∙ across-append c (sequence_set c l xs) (sequence_set c l ys)

-- no blocks have no entries below
pub entries-none : (c : IndexBlocks) (l : ℕ) → entries_below c l [] ≡ []
entries-none c zero = refl
entries-none c (suc l) = entries-none c l

-- the entries of a level about those of one block
pub across-about : (c : IndexBlocks) (xs : List ℕ) (p : ℕ) (ys : List ℕ) (front mid back : List Entry) → c.entries p ≡ front ++ (mid ++ back)
    → across c (xs ++ (p ∷ ys)) ≡ (across c xs ++ front) ++ (mid ++ (back ++ across c ys))
across-about c xs p ys front mid back is =
    across-append c xs (p ∷ ys)
    ∙ ap (λ (t : List Entry). across c xs ++ (t ++ across c ys)) is
    ∙ ap (λ (t : List Entry). across c xs ++ t) (append_assoc front (mid ++ back) (across c ys) ∙ ap (λ (t : List Entry). front ++ t) (append_assoc mid back (across c ys)))
    ∙ sym (append_assoc (across c xs) front (mid ++ (back ++ across c ys)))

pub on-parts : (c : IndexBlocks) (l : ℕ) (xs ys : List ℕ) → AreOnLevel c l (xs ++ ys) → AreOnLevel c l xs × AreOnLevel c l ys
on-parts c l [] ys h = (tt, h)
on-parts c l (x ∷ xs) ys h = let r = on-parts c l xs ys h.2 in ((h.0, h.1, r.0), r.1)

pub on-both : (c : IndexBlocks) (l : ℕ) (xs ys : List ℕ) → AreOnLevel c l xs → AreOnLevel c l ys → AreOnLevel c l (xs ++ ys)
on-both c l [] ys h g = g
on-both c l (x ∷ xs) ys h g = (h.0, h.1, on-both c l xs ys h.2 g)

-- the blocks of an index set are of its level
pub set-level : (c : IndexBlocks) (l : ℕ) (ns : List ℕ) → IsIndexSet c l ns → AreOnLevel c l ns
set-level c zero ns s = s.0
set-level c (suc l) ns s = s.0

-- the bounds of the right part
pub bounds-behind : (c : IndexBlocks) (l : ℕ) (xs ys : List Entry) → AreBounds c l (xs ++ ys) → AreBounds c l ys
bounds-behind c l [] ys b = b
bounds-behind c l (x ∷ xs) ys b = bounds-behind c l xs ys b.2

-- ---- what stays

-- each of these blocks of a level stays
abbrev pub AllStay : IndexBlocks → IndexBlocks → ℕ → List ℕ → Type 0
AllStay c d l [] = Unit {0}
AllStay c d l (n ∷ ns) = Stays c d l n × AllStay c d l ns

pub same-below : (c d : IndexBlocks) (l : ℕ) (ns : List ℕ) → StayBelow c d l ns → entries_below d l ns ≡ entries_below c l ns
same-below c d zero [] h = refl
same-below c d (suc l) [] h = same-below c d l [] tt
same-below c d l (n ∷ ns) h =
    entries-append d l (n ∷ []) ns
    ∙ ap (λ (t : List Entry). t ++ entries_below d l ns) h.0
    ∙ ap (λ (t : List Entry). entries_below c l (n ∷ []) ++ t) (same-below c d l ns h.1)
    ∙ sym (entries-append c l (n ∷ []) ns)

pub same-both : (c d : IndexBlocks) (l : ℕ) (xs ys : List ℕ) → StayBelow c d l xs → StayBelow c d l ys → StayBelow c d l (xs ++ ys)
same-both c d l [] ys h g = g
same-both c d l (x ∷ xs) ys h g = (h.0, same-both c d l xs ys h.1 g)

pub same-parts : (c d : IndexBlocks) (l : ℕ) (xs ys : List ℕ) → StayBelow c d l (xs ++ ys) → StayBelow c d l xs × StayBelow c d l ys
same-parts c d l [] ys h = (tt, h)
same-parts c d l (x ∷ xs) ys h = let rest = same-parts c d l xs ys h.1 in ((h.0, rest.0), rest.1)

pub stay-across : (c d : IndexBlocks) (l : ℕ) (ns : List ℕ) → AllStay c d l ns → across d ns ≡ across c ns
stay-across c d l [] h = refl
stay-across c d l (n ∷ ns) h = ap (λ (t : List Entry). t ++ across d ns) h.0.1 ∙ ap (λ (t : List Entry). c.entries n ++ t) (stay-across c d l ns h.1)

pub stay-parts : (c d : IndexBlocks) (l : ℕ) (xs ys : List ℕ) → AllStay c d l (xs ++ ys) → AllStay c d l xs × AllStay c d l ys
stay-parts c d l [] ys h = (tt, h)
stay-parts c d l (x ∷ xs) ys h = let rest = stay-parts c d l xs ys h.1 in ((h.0, rest.0), rest.1)

-- blocks of the sequence set that stay have the same entries
pub stay-same : (c d : IndexBlocks) (ns : List ℕ) → AllStay c d 0 ns → StayBelow c d 0 ns
stay-same c d [] h = tt
stay-same c d (n ∷ ns) h = (ap (λ (t : List Entry). t ++ []) h.0.1, stay-same c d ns h.1)

-- so have blocks that stay, over blocks below which all does
pub same-up : (c d : IndexBlocks) (l i : ℕ) (ns : List ℕ) → AllStay c d i ns → StayBelow c d l (named (across c ns)) → StayBelow c d (suc l) ns
same-up c d l i [] k h = tt
same-up c d l i (n ∷ ns) k h =
    let S : List ℕ → Type 0 = λ t. StayBelow c d l t in
    let parts = same-parts c d l (named (c.entries n)) (named (across c ns)) (subst S (named-append (c.entries n) (across c ns)) h) in
    let whole : StayBelow c d l (named (c.entries n ++ [])) = subst S (ap named (sym (nil (c.entries n)))) parts.0 in (
      ap (λ (t : List Entry). entries_below d l (named (t ++ []))) k.0.1 ∙ same-below c d l (named (c.entries n ++ [])) whole,
      same-up c d l i ns k.1 parts.1,
    )

-- the bounds of entries below which all stays the same
pub bounds-same : (c d : IndexBlocks) (l : ℕ) (es : List Entry) → StayBelow c d l (named es) → AreBounds c l es → AreBounds d l es
bounds-same c d l [] h b = tt
bounds-same c d l (e ∷ es) h b =
    let U : List Entry → Type 0 = λ t. AreUpTo e.key t in
    let F : List Entry → Type 0 = λ t. is_below_first e.key t ≡ true in
    (subst U (sym h.0) b.0, subst F (sym (same-below c d l (named es) h.1)) b.1, bounds-same c d l es h.1 b.2)

-- blocks that stay are of their level still
pub stay-level : (c d : IndexBlocks) (l : ℕ) (ns : List ℕ) → AllStay c d l ns → AreOnLevel c l ns → AreOnLevel d l ns
stay-level c d l [] k h = tt
stay-level c d l (n ∷ ns) k h = (k.0.0, (λ none. h.1 (sym k.0.1 ∙ none)), stay-level c d l ns k.1 h.2)

-- the blocks of a level above one below which alone blocks change stay
pub upper-stay : (c d : IndexBlocks) (l i : ℕ) (ns : List ℕ) → UpperStay c d l → l < i → AreOnLevel c i ns → AllStay c d i ns
upper-stay c d l i [] u less h = tt
upper-stay c d l i (n ∷ ns) u less h = (u n i h.0 less, upper-stay c d l i ns u less h.2)

pub lower-stay : (c d : IndexBlocks) (l i : ℕ) (ns : List ℕ) → LowerStay c d l → i < l → AreOnLevel c i ns → AllStay c d i ns
lower-stay c d l i [] u less h = tt
lower-stay c d l i (n ∷ ns) u less h = (u n i h.0 less, lower-stay c d l i ns u less h.2)

-- an index set of the levels that stay
pub set-stays : (c d : IndexBlocks) (l : ℕ) → LowerStay c d l → (i : ℕ) → i < l → (ns : List ℕ) → IsIndexSet c i ns → KeepsIndexSet c d i ns
set-stays c d l lower zero less ns old =
    let stay = lower-stay c d l zero ns lower less old.0 in
    let A : List Entry → Type 0 = λ t. keys_ascend t ≡ true in
    ((stay-level c d zero ns stay old.0, subst A (sym (stay-across c d zero ns stay)) old.1), stay-same c d ns stay)
set-stays c d l lower (suc i) less ns old =
    let stay = lower-stay c d l (suc i) ns lower less old.0 in
    let rest = set-stays c d l lower i (omega arith) (named (across c ns)) old.2 in
    let same : across d ns ≡ across c ns = stay-across c d (suc i) ns stay in
    let D : List Entry → Type 0 = λ t. AreBounds d i t in
    let N : List Entry → Type 0 = λ t. IsIndexSet d i (named t) in (
      (stay-level c d (suc i) ns stay old.0, subst D (sym same) (bounds-same c d i (across c ns) rest.1 old.1), subst N (sym same) rest.0),
      same-up c d i (suc i) ns stay rest.1,
    )

-- Slots that come behind those of blocks in memory.
use Rattle.std.proofs.Common.{◌≡◌, true, false, Bool, IsTrue, ℕ, ◌+◌, ◌*◌, ◌<◌, ◌≤◌, List, [], ◌∷◌, ◌++◌, length, sym, ap, subst, ◌∙◌, arith}
use Rattle.std.proofs.Math.Nat.{mod-eq_of_lt, lt_of_mul-lt-mul_right}
use Rattle.std.proofs.ByRecursion.{All-append}
use Rattle.std.proofs.lemmas.List.{append-nil, length-append}
use Rattle.std.specs.List.{AllByRecursion}
use Rattle.hd_volume.specs.declared.buffer.Buffer.{Buffer}
use Rattle.hd_volume.specs.Buffers.{put_in, put_all, IsBuffer, IsBlockLong, HoldsNot, AreApart, AreLater, StandFrom, IsElsewhere, StandInSlots, HasMore, AreKept}
use Rattle.hd_volume.proofs.AsideLemmas.{put-empty, none-held, none-apart, none-stand}

-- ---- buffers that hold nothing stand behind others

module _ {size : ℕ} {old new : List Buffer} (m : HasMore size old new) where
  -- what each of the others has, and one that holds nothing, each has
  pub all-more : (P : Buffer → Type 0) → ((b : Buffer) → b.holds ≡ false → P b) → AllByRecursion P old → AllByRecursion P new
  all-more P f h = subst (AllByRecursion P) (sym m.behind) (All-append P old m.more h (none-held P f m.more m.empty))

  pub long-more : AllByRecursion (IsBlockLong size) old → AllByRecursion (IsBlockLong size) new
  long-more h = subst (AllByRecursion (IsBlockLong size)) (sym m.behind) (All-append (IsBlockLong size) old m.more h m.long)

apart-behind : (old more : List Buffer) → AllByRecursion (λ b. b.holds ≡ false) more → AreApart old → AreApart (old ++ more)
apart-behind [] more none a = none-apart more none
apart-behind (x ∷ xs) more none a = (
  (λ holds. All-append (HoldsNot x.number) xs more (a.0 holds) (none-held (HoldsNot x.number) (λ b empty held. absurd (cc)) more none)),
  apart-behind xs more none a.1,
)

put-behind : (size : ℕ) (c : List ℕ) (old more : List Buffer) → AllByRecursion (λ b. b.holds ≡ false) more → put_all size c (old ++ more) ≡ put_all size c old
put-behind size c [] more none = put-empty size c more none
put-behind size c (x ∷ xs) more none = ap (λ (t : List ℕ). put_in size t x) (put-behind size c xs more none)

-- they make the bytes that the others make
pub put-more : {size : ℕ} {old new : List Buffer} → HasMore size old new → (c : List ℕ) → put_all size c new ≡ put_all size c old
put-more {size} {old} {new} m c = ap (put_all size c) m.behind ∙ put-behind size c old m.more m.empty

-- ---- each block stands in the slot of its own number

-- a buffer's block has a lower number, if it holds one
abbrev IsBelow : ℕ → Buffer → Type 0
IsBelow n b = b.holds ≡ true → b.number < n

-- no block but the last has a number as great as its
all-below : (size n : ℕ) (c : List ℕ) (bs : List Buffer) → 0 < size → length c ≡ n * size + size → AllByRecursion (IsBuffer size c) bs → AllByRecursion (HoldsNot n) bs → AllByRecursion (IsBelow n) bs
all-below size n c [] some len h o = tt
all-below size n c (x ∷ xs) some len h o = (
  (λ holds.
      let there = h.0.there holds in
      let other = o.0 holds in
      let rows : (n + 1) * size ≡ n * size + size = omega arith in
      let lower : x.number < n + 1 = lt_of_mul-lt-mul_right size (omega arith) in
      omega arith),
  all-below size n c xs some len h.1 o.1,
)

module _ (count wide : ℕ) (w : count ≤ wide) where
  -- more slots leave such a block its slot
  stand-wider : (k : ℕ) (bs : List Buffer) → AllByRecursion (IsBelow count) bs → StandFrom count k bs → StandFrom wide k bs
  stand-wider k [] h s = tt
  stand-wider k (x ∷ xs) h s = (
    (λ holds.
        let low : x.number < count = h.0 holds in
        mod-eq_of_lt {n = x.number} {m = wide} (omega arith) ∙ sym (mod-eq_of_lt low) ∙ s.0 holds),
    stand-wider (k + 1) xs h.1 s.1,
  )

  -- none of them has that of another number
  free-wider : (n : ℕ) (bs : List Buffer) → n < wide → AllByRecursion (IsBelow count) bs → AllByRecursion (HoldsNot n) bs → AllByRecursion (IsElsewhere wide n) bs
  free-wider n [] l h o = tt
  free-wider n (x ∷ xs) l h o = (
    (λ holds e.
        let low : x.number < count = h.0 holds in
        o.0 holds (sym (mod-eq_of_lt {n = x.number} {m = wide} (omega arith)) ∙ e ∙ mod-eq_of_lt l)),
    free-wider n xs l h.1 o.1,
  )

stand-more : (wide k : ℕ) (old more : List Buffer) → AllByRecursion (λ b. b.holds ≡ false) more → StandFrom wide k old → StandFrom wide k (old ++ more)
stand-more wide k [] more none s = none-stand wide k more none
stand-more wide k (x ∷ xs) more none s = (s.0, stand-more wide (k + 1) xs more none s.1)

slots-behind : (n : ℕ) (old more : List Buffer) → AllByRecursion (λ b. b.holds ≡ false) more → n ≡ length old → AllByRecursion (IsBelow n) old → AllByRecursion (HoldsNot n) old → StandInSlots n old
    → StandInSlots n (old ++ more)
slots-behind n old [] none is h o s = subst (StandInSlots n) (sym (append-nil old)) s
slots-behind n old (x ∷ xs) none is h o s =
    let len : length (old ++ x ∷ xs) ≡ length old + (length xs + 1) = length-append old (x ∷ xs) ∙ omega arith in
    let below : AllByRecursion (IsBelow (length old)) old = subst (λ (k : ℕ). AllByRecursion (IsBelow k) old) is h in
    let wide : ℕ = length (old ++ x ∷ xs) in
    record {
      own = stand-more wide 0 old (x ∷ xs) none (stand-wider (length old) wide (omega arith) 0 old below s.own);
      free =
          All-append (IsElsewhere wide n) old (x ∷ xs) (free-wider (length old) wide (omega arith) n old (omega arith) below o)
          (none-held (IsElsewhere wide n) (λ b empty held. absurd (cc)) (x ∷ xs) none);
    }

-- What is kept stays so where slots come behind as many as the last block's number, which is in hand.
pub more-kept : {store_size size : ℕ} {c : List ℕ} {s : Bool} {head hand : Buffer} {aside aside' : List Buffer} → AreKept store_size c s size head hand aside → HasMore size aside aside'
    → (IsTrue s → (hand.holds ≡ true) × (length c ≡ hand.number * size + size)) → hand.number ≡ length aside → AreKept store_size c s size head hand aside'
more-kept {store_size} {size} {c} {s} {head} {hand} {aside} {aside'} k m last is = record {
  same_size = k.same_size;
  some = k.some;
  small = k.small;
  head_len = k.head_len;
  hand_len = k.hand_len;
  aside_len = long-more m k.aside_len;
  head_number = k.head_number;
  ready = k.ready;
  others = λ sound.
      let p : AreLater size c (hand ∷ aside) = k.others sound in
      record {
        each = (p.each.0, all-more m (IsBuffer size c) (λ b none. record { there = λ holds. absurd (cc); same = λ holds un. absurd (cc) }) p.each.1);
        later = (p.later.0, all-more m (HoldsNot 0) (λ b none holds. absurd (cc)) p.later.1);
        apart = ((λ holds. all-more m (HoldsNot hand.number) (λ b none held. absurd (cc)) (p.apart.0 holds)), subst AreApart (sym m.behind) (apart-behind aside m.more m.empty p.apart.1));
      };
  slots = λ sound.
      let p : AreLater size c (hand ∷ aside) = k.others sound in
      let others : AllByRecursion (HoldsNot hand.number) aside = p.apart.0 (last sound).0 in
      subst (StandInSlots hand.number) (sym m.behind)
      (slots-behind hand.number aside m.more m.empty is (all-below size hand.number c aside k.some (last sound).1 p.each.1 others) others (k.slots sound));
}

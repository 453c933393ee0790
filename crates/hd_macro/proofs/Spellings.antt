-- The grammar of operand text: what is read as operands is spelled as operands, and what is spelled so is read.
use Rattle.std.proofs.Common.{◌≡◌, ◌⊎◌, inl, inr, ℕ, zero, suc, ◌+◌, List, [], ◌∷◌, ◌++◌, length, cond, Bool, true, false, Option, Some, None, refl, ap, sym, subst, ◌∙◌, arith, append_assoc}
use Rattle.std.specs.Prelude.{nat_lt, ◌==◌, ◌&&◌, option_and_then}
use Rattle.std.specs.List.{list_all}
use Rattle.std.proofs.lemmas.Bool.{and_parts, and_from, eqb-true}
use Rattle.std.proofs.lemmas.Bool.Decides.{nat_tests}
use Rattle.std.proofs.lemmas.List.{length-append, append-nil}
use Rattle.hd_macro.specs.Statements.{OperandText}
use Rattle.hd_macro.specs.Operands.{Place, in_keyword, at_value, in_value, at_member, in_member, behind_list, Reading, is_keyword_byte, is_value_byte, read_at, read_text, ended}
use Rattle.hd_macro.specs.Grammar.{Value, word, bracketed, Members, alone, followed, KeywordOperand, value_spelling, members_spelling, operand_spelling, has_value_words, have_value_words, may_stand, IsSpelled}
use Rattle.hd_macro.specs.Laws.{operands_in, OperandTextIsSpelled}
use Rattle.hd_macro.proofs.ReadSpellings.{reading, behind_commas, one-deeper, read_spelling}

-- ---- what is left of operand text behind a place

-- values, each behind a comma
abbrev behind_members : List Value → List ℕ
behind_members [] = []
behind_members (v ∷ vs) = 44 ∷ (value_spelling v ++ behind_members vs)

-- what is left behind a member, or behind an operand: further members and a bracket for each list that is open, and then further operands
abbrev Rest : ℕ → List ℕ → Type 0
Rest zero bs = (os : List KeywordOperand) × (list_all may_stand os ≡ true) × (bs ≡ behind_commas os)
Rest (suc n) bs = (vs : List Value) × (r : List ℕ) × (list_all has_value_words vs ≡ true) × (bs ≡ behind_members vs ++ 41 ∷ r) × Rest n r

-- what is left at the front of a value, and in a word
record AtValue (n : ℕ) (bs : List ℕ) : Type 0 where
  value : Value
  rest : List ℕ
  words : has_value_words value ≡ true
  is : bs ≡ value_spelling value ++ rest
  behind : Rest n rest

record InWord (n : ℕ) (bs : List ℕ) : Type 0 where
  text : List ℕ
  rest : List ℕ
  all : list_all is_value_byte text ≡ true
  is : bs ≡ text ++ rest
  behind : Rest n rest

-- what is left at the front of a value that may not be empty
record AtFullValue (n : ℕ) (bs : List ℕ) : Type 0 where
  from : AtValue n bs
  some : nat_lt 0 (length (value_spelling from.value)) ≡ true

-- what is left in a keyword
record InKeyword (k bs : List ℕ) : Type 0 where
  text : List ℕ
  tail : List ℕ
  all : list_all is_keyword_byte text ≡ true
  some : nat_lt 0 (length (k ++ text)) ≡ true
  is : bs ≡ text ++ 61 ∷ tail
  behind : AtFullValue 0 tail

-- nothing is left, and nothing was read
record IsNone (w : List OperandText) (k bs : List ℕ) : Type 0 where
  none : bs ≡ []
  no_operand : length w ≡ 0
  no_keyword : length k ≡ 0

abbrev Left : Place → List OperandText → List ℕ → List ℕ → Type 0
Left in_keyword w k bs = IsNone w k bs ⊎ InKeyword k bs
Left at_value w k bs = AtFullValue 0 bs
Left in_value w k bs = InWord 0 bs
Left (at_member zero) w k bs = Unit {0}
Left (at_member (suc n)) w k bs = AtValue (suc n) bs
Left (in_member zero) w k bs = Unit {0}
Left (in_member (suc n)) w k bs = InWord (suc n) bs
Left (behind_list n) w k bs = Rest n bs

-- past the keyword, the keyword is not empty
abbrev HasKeyword : Place → List ℕ → Type 0
HasKeyword in_keyword k = Unit {0}
HasKeyword p k = nat_lt 0 (length k) ≡ true

-- the text is read to an end
abbrev IsRead : Option Reading → List ℕ → List OperandText → Type 0
IsRead q bs texts = option_and_then ended (option_and_then (λ (t : Reading). read_text t bs) q) ≡ Some texts

-- what is left behind each place that may stand there
abbrev Later : List ℕ → List OperandText → Type 0
Later bs texts = (p : Place) (w : List OperandText) (k u : List ℕ) → HasKeyword p k → IsRead (Some (reading w k u p)) bs texts → Left p w k bs

-- a byte is read in one way, or in another
choose : (c : Bool) (s : Reading) (other : Option Reading) (bs : List ℕ) (texts : List OperandText) → IsRead (cond c (Some s) other) bs texts
    → ((c ≡ true) × IsRead (Some s) bs texts) ⊎ ((c ≡ false) × IsRead other bs texts)
choose true s other bs texts h = inl (refl, h)
choose false s other bs texts h = inr (refl, h)

-- ---- the parts

some-bytes : (b : ℕ) (bs : List ℕ) → nat_lt 0 (length (b ∷ bs)) ≡ true
some-bytes b bs = grind (arith, nat_tests)

some-more : (k : List ℕ) (b : ℕ) (bs : List ℕ) → nat_lt 0 (length (k ++ b ∷ bs)) ≡ true
some-more [] b bs = some-bytes b bs
some-more (x ∷ k) b bs = some-bytes x (k ++ b ∷ bs)

-- members behind a member are the members of one list
abbrev members_of : Value → List Value → Members
members_of v [] = alone v
members_of v (x ∷ vs) = followed v (members_of x vs)

members-spelled : (v : Value) (vs : List Value) → members_spelling (members_of v vs) ≡ value_spelling v ++ behind_members vs
members-spelled v [] = sym (append-nil (value_spelling v))
members-spelled v (x ∷ vs) = ap (λ (l : List ℕ). value_spelling v ++ 44 ∷ l) (members-spelled x vs)

members-fit : (v : Value) (vs : List Value) → has_value_words v ≡ true → list_all has_value_words vs ≡ true → have_value_words (members_of v vs) ≡ true
members-fit v [] here all = here
members-fit v (x ∷ vs) here all =
    let (there, others) = and_parts _ _ all in
    and_from _ _ here (members-fit x vs there others)

-- a list that opens
opens : (n : ℕ) (bs : List ℕ) → AtValue (suc n) bs → AtFullValue n (40 ∷ bs)
opens n bs v =
    let (vs, r, all, is, behind) = v.behind in
    let spelled : bs ≡ (members_spelling (members_of v.value vs) ++ 41 ∷ []) ++ r =
    v.is ∙ ap (λ (l : List ℕ). value_spelling v.value ++ l) is ∙ sym (append_assoc (value_spelling v.value) (behind_members vs) (41 ∷ r))
    ∙ ap (λ (l : List ℕ). l ++ 41 ∷ r) (sym (members-spelled v.value vs)) ∙ sym (append_assoc (members_spelling (members_of v.value vs)) (41 ∷ []) r) in
    record {
      from = record {
        value = bracketed (members_of v.value vs);
        rest = r;
        words = members-fit v.value vs v.words all;
        is = ap (λ (l : List ℕ). 40 ∷ l) spelled;
        behind = behind;
      };
      some = some-bytes 40 (members_spelling (members_of v.value vs) ++ 41 ∷ []);
    }

-- behind a member: a comma and a member, or a bracket
comma-member : (n : ℕ) (bs : List ℕ) → AtValue (suc n) bs → Rest (suc n) (44 ∷ bs)
comma-member n bs v =
    let (vs, r, all, is, behind) = v.behind in (
      v.value ∷ vs,
      r,
      and_from _ _ v.words all,
      ap (λ (l : List ℕ). 44 ∷ l) (v.is ∙ ap (λ (l : List ℕ). value_spelling v.value ++ l) is ∙ sym (append_assoc (value_spelling v.value) (behind_members vs) (41 ∷ r))),
      behind,
    )

bracket-closes : (n : ℕ) (bs : List ℕ) → Rest n bs → Rest (suc n) (41 ∷ bs)
bracket-closes n bs r = ([], bs, refl, refl, r)

-- an operand, and those behind it
first-operand : (bs : List ℕ) → InKeyword [] bs
    → (o : KeywordOperand) × (os : List KeywordOperand) × (may_stand o ≡ true) × (list_all may_stand os ≡ true) × (bs ≡ operand_spelling o ++ behind_commas os)
first-operand bs i =
    let v = i.behind.from in
    let (os, all, is) = v.behind in
    let o : KeywordOperand = record { keyword = i.text; value = v.value } in (
      o,
      os,
      and_from _ _ (and_from _ _ i.some i.all) (and_from _ _ i.behind.some v.words),
      all,
      i.is ∙ ap (λ (l : List ℕ). i.text ++ 61 ∷ l) (v.is ∙ ap (λ (l : List ℕ). value_spelling v.value ++ l) is)
          ∙ sym (append_assoc i.text (61 ∷ value_spelling v.value) (behind_commas os)),
    )

comma-operand : (w : List OperandText) (t : OperandText) (bs : List ℕ) → Left in_keyword (w ++ t ∷ []) [] bs → Rest 0 (44 ∷ bs)
comma-operand w t bs l =
    elim l [
      | inl none ↦ absurd (omega (arith, none.no_operand, length-append w (t ∷ [])))
      | inr i ↦ (let (o, os, here, all, is) = first-operand bs i in (o ∷ os, and_from _ _ here all, ap (λ (x : List ℕ). 44 ∷ x) is))
    ]

-- ---- a byte at each place

keyword-byte : (b : ℕ) (bs : List ℕ) (texts : List OperandText) → Later bs texts → (w : List OperandText) (k u : List ℕ)
    → IsRead (read_at in_keyword (reading w k u in_keyword) b) bs texts → Left in_keyword w k (b ∷ bs)
keyword-byte b bs texts later w k u h =
    elim (choose (is_keyword_byte b) (reading w (k ++ b ∷ []) u in_keyword) _ bs texts h) [
      | inl this ↦ (elim (later in_keyword w (k ++ b ∷ []) u tt this.1) [
        | inl none ↦ absurd (omega (arith, none.no_keyword, length-append k (b ∷ [])))
        | inr i ↦ inr (record {
          text = b ∷ i.text;
          tail = i.tail;
          all = and_from _ _ this.0 i.all;
          some = some-more k b i.text;
          is = ap (λ (l : List ℕ). b ∷ l) i.is;
          behind = i.behind;
        })
      ])
      | inr not_key ↦ (elim (choose (b == 61 && nat_lt 0 (length k)) (reading w k u at_value) None bs texts not_key.1) [
        | inl this ↦ (let (equals, some) = and_parts _ _ this.0 in inr (record {
          text = [];
          tail = bs;
          all = refl;
          some = ap (λ (l : List ℕ). nat_lt 0 (length l)) (append-nil k) ∙ some;
          is = ap (λ (x : ℕ). x ∷ bs) (eqb-true b 61 equals);
          behind = later at_value w k u some this.1;
        }))
        | inr none ↦ absurd (cc none.1)
      ])
    ]

value-front : (b : ℕ) (bs : List ℕ) (texts : List OperandText) → Later bs texts → (w : List OperandText) (k u : List ℕ) → nat_lt 0 (length k) ≡ true
    → IsRead (read_at at_value (reading w k u at_value) b) bs texts → AtFullValue 0 (b ∷ bs)
value-front b bs texts later w k u some h =
    elim (choose (is_value_byte b) (reading w k (u ++ b ∷ []) in_value) _ bs texts h) [
      | inl this ↦ (let i = later in_value w k (u ++ b ∷ []) some this.1 in record {
        from = record { value = word (b ∷ i.text); rest = i.rest; words = and_from _ _ this.0 i.all; is = ap (λ (l : List ℕ). b ∷ l) i.is; behind = i.behind };
        some = some-bytes b i.text;
      })
      | inr other ↦ (elim (choose (b == 40) (reading w k (u ++ b ∷ []) (at_member 1)) None bs texts other.1) [
        | inl this ↦ subst (λ (x : ℕ). AtFullValue 0 (x ∷ bs)) (sym (eqb-true b 40 this.0)) (opens 0 bs (later (at_member 1) w k (u ++ b ∷ []) some this.1))
        | inr none ↦ absurd (cc none.1)
      ])
    ]

value-byte : (b : ℕ) (bs : List ℕ) (texts : List OperandText) → Later bs texts → (w : List OperandText) (k u : List ℕ) → nat_lt 0 (length k) ≡ true
    → IsRead (read_at in_value (reading w k u in_value) b) bs texts → InWord 0 (b ∷ bs)
value-byte b bs texts later w k u some h =
    elim (choose (is_value_byte b) (reading w k (u ++ b ∷ []) in_value) _ bs texts h) [
      | inl this ↦ (let i = later in_value w k (u ++ b ∷ []) some this.1 in
          record { text = b ∷ i.text; rest = i.rest; all = and_from _ _ this.0 i.all; is = ap (λ (l : List ℕ). b ∷ l) i.is; behind = i.behind })
      | inr other ↦ (elim (choose (b == 44) (reading (w ++ record { keyword = k; value = u } ∷ []) [] [] in_keyword) None bs texts other.1) [
        | inl this ↦ record {
          text = [];
          rest = b ∷ bs;
          all = refl;
          is = refl;
          behind = subst (λ (x : ℕ). Rest 0 (x ∷ bs)) (sym (eqb-true b 44 this.0))
              (comma-operand w (record { keyword = k; value = u }) bs (later in_keyword (w ++ record { keyword = k; value = u } ∷ []) [] [] tt this.1));
        }
        | inr none ↦ absurd (cc none.1)
      ])
    ]

-- a comma or a bracket behind a member
behind-member : (n : ℕ) (b : ℕ) (bs : List ℕ) (texts : List OperandText) → Later bs texts → (w : List OperandText) (k u : List ℕ) → nat_lt 0 (length k) ≡ true
    → IsRead (cond (b == 44) (Some (reading w k (u ++ b ∷ []) (at_member (suc n)))) (cond (b == 41) (Some (reading w k (u ++ b ∷ []) (behind_list n))) None)) bs texts
    → Rest (suc n) (b ∷ bs)
behind-member n b bs texts later w k u some h =
    elim (choose (b == 44) (reading w k (u ++ b ∷ []) (at_member (suc n))) _ bs texts h) [
      | inl this ↦ subst (λ (x : ℕ). Rest (suc n) (x ∷ bs)) (sym (eqb-true b 44 this.0)) (comma-member n bs (later (at_member (suc n)) w k (u ++ b ∷ []) some this.1))
      | inr other ↦ (elim (choose (b == 41) (reading w k (u ++ b ∷ []) (behind_list n)) None bs texts other.1) [
        | inl this ↦ subst (λ (x : ℕ). Rest (suc n) (x ∷ bs)) (sym (eqb-true b 41 this.0)) (bracket-closes n bs (later (behind_list n) w k (u ++ b ∷ []) some this.1))
        | inr none ↦ absurd (cc none.1)
      ])
    ]

member-byte : (n : ℕ) (b : ℕ) (bs : List ℕ) (texts : List OperandText) → Later bs texts → (w : List OperandText) (k u : List ℕ) → nat_lt 0 (length k) ≡ true
    → IsRead (read_at (in_member (suc n)) (reading w k u (in_member (suc n))) b) bs texts → InWord (suc n) (b ∷ bs)
member-byte n b bs texts later w k u some h =
    elim (choose (is_value_byte b) (reading w k (u ++ b ∷ []) (in_member (suc n))) _ bs texts h) [
      | inl this ↦ (let i = later (in_member (suc n)) w k (u ++ b ∷ []) some this.1 in
          record { text = b ∷ i.text; rest = i.rest; all = and_from _ _ this.0 i.all; is = ap (λ (l : List ℕ). b ∷ l) i.is; behind = i.behind })
      | inr other ↦ record { text = []; rest = b ∷ bs; all = refl; is = refl; behind = behind-member n b bs texts later w k u some other.1 }
    ]

member-front : (n : ℕ) (b : ℕ) (bs : List ℕ) (texts : List OperandText) → Later bs texts → (w : List OperandText) (k u : List ℕ) → nat_lt 0 (length k) ≡ true
    → IsRead (read_at (at_member (suc n)) (reading w k u (at_member (suc n))) b) bs texts → AtValue (suc n) (b ∷ bs)
member-front n b bs texts later w k u some h =
    elim (choose (is_value_byte b) (reading w k (u ++ b ∷ []) (in_member (suc n))) _ bs texts h) [
      | inl this ↦ (let i = later (in_member (suc n)) w k (u ++ b ∷ []) some this.1 in
          record { value = word (b ∷ i.text); rest = i.rest; words = and_from _ _ this.0 i.all; is = ap (λ (l : List ℕ). b ∷ l) i.is; behind = i.behind })
      | inr other ↦ (elim (choose (b == 40) (reading w k (u ++ b ∷ []) (at_member (suc n + 1))) _ bs texts other.1) [
        | inl this ↦ (let deeper : IsRead (Some (reading w k (u ++ b ∷ []) (at_member (suc (suc n))))) bs texts =
            subst (λ (d : ℕ). IsRead (Some (reading w k (u ++ b ∷ []) (at_member d))) bs texts) (one-deeper n) this.1 in
            subst (λ (x : ℕ). AtValue (suc n) (x ∷ bs)) (sym (eqb-true b 40 this.0)) (opens (suc n) bs (later (at_member (suc (suc n))) w k (u ++ b ∷ []) some deeper)).from)
        | inr behind ↦ record { value = word []; rest = b ∷ bs; words = refl; is = refl; behind = behind-member n b bs texts later w k u some behind.1 }
      ])
    ]

list-behind : (n : ℕ) (b : ℕ) (bs : List ℕ) (texts : List OperandText) → Later bs texts → (w : List OperandText) (k u : List ℕ) → nat_lt 0 (length k) ≡ true
    → IsRead (read_at (behind_list n) (reading w k u (behind_list n)) b) bs texts → Rest n (b ∷ bs)
list-behind zero b bs texts later w k u some h =
    elim (choose (b == 44) (reading (w ++ record { keyword = k; value = u } ∷ []) [] [] in_keyword) None bs texts h) [
      | inl this ↦ subst (λ (x : ℕ). Rest 0 (x ∷ bs)) (sym (eqb-true b 44 this.0))
          (comma-operand w (record { keyword = k; value = u }) bs (later in_keyword (w ++ record { keyword = k; value = u } ∷ []) [] [] tt this.1))
      | inr none ↦ absurd (cc none.1)
    ]
list-behind (suc n) b bs texts later w k u some h = behind-member n b bs texts later w k u some h

-- a byte, at any place
byte : (p : Place) (b : ℕ) (bs : List ℕ) (texts : List OperandText) → Later bs texts → (w : List OperandText) (k u : List ℕ) → HasKeyword p k
    → IsRead (read_at p (reading w k u p) b) bs texts → Left p w k (b ∷ bs)
byte in_keyword b bs texts later w k u some h = keyword-byte b bs texts later w k u h
byte at_value b bs texts later w k u some h = value-front b bs texts later w k u some h
byte in_value b bs texts later w k u some h = value-byte b bs texts later w k u some h
byte (at_member zero) b bs texts later w k u some h = tt
byte (at_member (suc n)) b bs texts later w k u some h = member-front n b bs texts later w k u some h
byte (in_member zero) b bs texts later w k u some h = tt
byte (in_member (suc n)) b bs texts later w k u some h = member-byte n b bs texts later w k u some h
byte (behind_list n) b bs texts later w k u some h = list-behind n b bs texts later w k u some h

-- ---- the end, and the whole

-- where an operand is not whole, the text ends only where nothing was read
not-whole : (a c d : Bool) (texts : List OperandText) → cond (a && c && d) (Some []) None ≡ Some texts → (a ≡ true) × (c ≡ true)
not-whole true true d texts h = (refl, refl)
not-whole true false d texts h = absurd (cc)
not-whole false c d texts h = absurd (cc)

some-not-none : (n : ℕ) → nat_lt 0 n ≡ true → (n == 0) ≡ true → ⊥
some-not-none n some none = grind (arith, nat_tests)

-- a bracket is open, so the text may not end
open-bracket : (n : ℕ) → (suc n == 0) ≡ false
open-bracket n = grind (arith, nat_tests)

open-list : (whole : Bool) (n : ℕ) (a : Bool) (q : Option (List OperandText)) (d : Bool) (texts : List OperandText) → whole ≡ false → nat_lt 0 n ≡ true
    → cond whole q (cond (a && n == 0 && d) (Some []) None) ≡ Some texts → ⊥
open-list true n a q d texts e some h = absurd (cc)
open-list false n a q d texts e some h = some-not-none n some (not-whole a (n == 0) d texts h).1

-- the end, at any place
at-end : (p : Place) (texts : List OperandText) (w : List OperandText) (k u : List ℕ) → HasKeyword p k → ended (reading w k u p) ≡ Some texts → Left p w k []
at-end in_keyword texts w k u some h =
    let (no_operand, no_keyword) = not-whole (length w == 0) (length k == 0) (length u == 0) texts h in
    inl (record { none = refl; no_operand = eqb-true (length w) 0 no_operand; no_keyword = eqb-true (length k) 0 no_keyword })
at-end at_value texts w k u some h = absurd (some-not-none (length k) some (not-whole (length w == 0) (length k == 0) (length u == 0) texts h).1)
at-end in_value texts w k u some h = record { text = []; rest = []; all = refl; is = refl; behind = ([], refl, refl) }
at-end (at_member zero) texts w k u some h = tt
at-end (at_member (suc n)) texts w k u some h = absurd (some-not-none (length k) some (not-whole (length w == 0) (length k == 0) (length u == 0) texts h).1)
at-end (in_member zero) texts w k u some h = tt
at-end (in_member (suc n)) texts w k u some h = absurd (some-not-none (length k) some (not-whole (length w == 0) (length k == 0) (length u == 0) texts h).1)
at-end (behind_list zero) texts w k u some h = ([], refl, refl)
at-end (behind_list (suc n)) texts w k u some h = absurd (open-list (suc n == 0) (length k) _ _ (length u == 0) texts (open-bracket n) some h)

left : (bs : List ℕ) (texts : List OperandText) → Later bs texts
left [] texts p w k u some h = at-end p texts w k u some h
left (b ∷ bs) texts p w k u some h = byte p b bs texts (left bs texts) w k u some h

same_Some : (a b : List OperandText) → Some a ≡ Some b → a ≡ b
same_Some a b e = cc

-- what is read as operands is spelled
spelled : (text : List ℕ) (texts : List OperandText) → operands_in text ≡ Some texts → IsSpelled text texts
spelled text texts h =
    elim (left text texts in_keyword [] [] [] tt h) [
      | inl none ↦ record { operands = []; stand = refl; spelling = sym none.none; texts_are = same_Some _ _ (sym (ap operands_in none.none) ∙ h) }
      | inr i ↦ (let (o, os, here, all, is) = first-operand text i in
          let stand : list_all may_stand (o ∷ os) ≡ true = and_from _ _ here all in
          record {
            operands = o ∷ os;
            stand = stand;
            spelling = sym is;
            texts_are = same_Some _ _ (sym (read_spelling (o ∷ os) stand) ∙ ap operands_in (sym is) ∙ h);
          })
    ]

pub operand-text-is-spelled : OperandTextIsSpelled
operand-text-is-spelled text texts = (spelled text texts, λ s. sym (ap operands_in s.spelling) ∙ read_spelling s.operands s.stand ∙ ap Some s.texts_are)

-- What is spelled as operands is read as operands.
use Rattle.std.proofs.Common.{◌≡◌, ℕ, suc, ◌+◌, List, [], ◌∷◌, ◌++◌, length, cond, Bool, true, false, Option, Some, refl, ap, sym, ◌∙◌, arith, append_assoc}
use Rattle.std.specs.Prelude.{map, nat_lt, option_and_then}
use Rattle.std.specs.List.{list_all, flat_map}
use Rattle.std.proofs.lemmas.Bool.{and_parts}
use Rattle.std.proofs.lemmas.List.{append-nil}
use Rattle.hd_macro.specs.Statements.{OperandText}
use Rattle.hd_macro.specs.Operands.{Place, in_keyword, at_value, in_value, at_member, in_member, behind_list, Reading, is_keyword_byte, is_value_byte, read_text, ended}
use Rattle.hd_macro.specs.Grammar.{Value, word, bracketed, Members, alone, followed, KeywordOperand, value_spelling, members_spelling, operand_spelling, has_value_words, have_value_words, operands_spelling, may_stand, text_of}
use Rattle.hd_macro.specs.Laws.{operands_in}

-- operand text as far as it is read, by its parts
abbrev pub reading : List OperandText → List ℕ → List ℕ → Place → Reading
reading w k u p = record { whole = w; keyword = k; value = u; place = p }

-- operands, each behind a comma
abbrev pub behind_commas : List KeywordOperand → List ℕ
behind_commas os = flat_map (λ o. (44 ∷ []) ++ operand_spelling o) os

-- a byte that may stand is read
step : (c : Bool) (s : Reading) (other : Option Reading) (rest : List ℕ) → c ≡ true
    → option_and_then (λ (t : Reading). read_text t rest) (cond c (Some s) other) ≡ read_text s rest
step true s other rest e = refl
step false s other rest e = absurd (cc)

-- ---- words

-- the bytes of a keyword
keyword-read : (x : List ℕ) → list_all is_keyword_byte x ≡ true → (w : List OperandText) (k u rest : List ℕ)
    → read_text (reading w k u in_keyword) (x ++ rest) ≡ read_text (reading w (k ++ x) u in_keyword) rest
keyword-read [] fits w k u rest = ap (λ (l : List ℕ). read_text (reading w l u in_keyword) rest) (sym (append-nil k))
keyword-read (b ∷ x) fits w k u rest =
    let (here, more) = and_parts (is_keyword_byte b) (list_all is_keyword_byte x) fits in
    step (is_keyword_byte b) (reading w (k ++ b ∷ []) u in_keyword) _ (x ++ rest) here
    ∙ keyword-read x more w (k ++ b ∷ []) u rest
    ∙ ap (λ (l : List ℕ). read_text (reading w l u in_keyword) rest) (append_assoc k (b ∷ []) x)

-- the bytes of a plain value
value-word-read : (x : List ℕ) → list_all is_value_byte x ≡ true → (w : List OperandText) (k u rest : List ℕ)
    → read_text (reading w k u in_value) (x ++ rest) ≡ read_text (reading w k (u ++ x) in_value) rest
value-word-read [] fits w k u rest = ap (λ (l : List ℕ). read_text (reading w k l in_value) rest) (sym (append-nil u))
value-word-read (b ∷ x) fits w k u rest =
    let (here, more) = and_parts (is_value_byte b) (list_all is_value_byte x) fits in
    step (is_value_byte b) (reading w k (u ++ b ∷ []) in_value) _ (x ++ rest) here
    ∙ value-word-read x more w k (u ++ b ∷ []) rest
    ∙ ap (λ (l : List ℕ). read_text (reading w k l in_value) rest) (append_assoc u (b ∷ []) x)

-- the bytes of a member
member-word-read : (x : List ℕ) → list_all is_value_byte x ≡ true → (d : ℕ) (w : List OperandText) (k u rest : List ℕ)
    → read_text (reading w k u (in_member d)) (x ++ rest) ≡ read_text (reading w k (u ++ x) (in_member d)) rest
member-word-read [] fits d w k u rest = ap (λ (l : List ℕ). read_text (reading w k l (in_member d)) rest) (sym (append-nil u))
member-word-read (b ∷ x) fits d w k u rest =
    let (here, more) = and_parts (is_value_byte b) (list_all is_value_byte x) fits in
    step (is_value_byte b) (reading w k (u ++ b ∷ []) (in_member d)) _ (x ++ rest) here
    ∙ member-word-read x more d w k (u ++ b ∷ []) rest
    ∙ ap (λ (l : List ℕ). read_text (reading w k l (in_member d)) rest) (append_assoc u (b ∷ []) x)

-- ---- members

-- behind a member, with n brackets open around its own: a comma begins the next member, and a bracket closes
record IsBehindMember (n : ℕ) (p : Place) : Type 0 where
  comma : (w : List OperandText) (k u rest : List ℕ) → read_text (reading w k u p) (44 ∷ rest) ≡ read_text (reading w k (u ++ 44 ∷ []) (at_member (suc n))) rest
  bracket : (w : List OperandText) (k u rest : List ℕ) → read_text (reading w k u p) (41 ∷ rest) ≡ read_text (reading w k (u ++ 41 ∷ []) (behind_list n)) rest

-- a member that is read leads behind it
record IsMemberRead (n : ℕ) (w : List OperandText) (k u text rest : List ℕ) : Type 0 where
  place : Place
  behind : IsBehindMember n place
  read : read_text (reading w k u (at_member (suc n))) (text ++ rest) ≡ read_text (reading w k (u ++ text) place) rest

-- a bracket that opens in n + 1 open brackets
pub one-deeper : (n : ℕ) → suc n + 1 ≡ suc (suc n)
one-deeper n = omega arith

mutual
  member-read : (v : Value) → has_value_words v ≡ true → (n : ℕ) (w : List OperandText) (k u rest : List ℕ) → IsMemberRead n w k u (value_spelling v) rest
  member-read (word []) fits n w k u rest =
      record {
        place = at_member (suc n);
        behind = record { comma = λ w k u rest. refl; bracket = λ w k u rest. refl };
        read = ap (λ (l : List ℕ). read_text (reading w k l (at_member (suc n))) rest) (sym (append-nil u));
      }
  member-read (word (b ∷ x)) fits n w k u rest =
      let (here, more) = and_parts (is_value_byte b) (list_all is_value_byte x) fits in
      record {
        place = in_member (suc n);
        behind = record { comma = λ w k u rest. refl; bracket = λ w k u rest. refl };
        read = step (is_value_byte b) (reading w k (u ++ b ∷ []) (in_member (suc n))) _ (x ++ rest) here
            ∙ member-word-read x more (suc n) w k (u ++ b ∷ []) rest
            ∙ ap (λ (l : List ℕ). read_text (reading w k l (in_member (suc n))) rest) (append_assoc u (b ∷ []) x);
      }
  member-read (bracketed ms) fits n w k u rest =
      record {
        place = behind_list (suc n);
        behind = record { comma = λ w k u rest. refl; bracket = λ w k u rest. refl };
        read = ap (λ (d : ℕ). read_text (reading w k (u ++ 40 ∷ []) (at_member d)) ((members_spelling ms ++ 41 ∷ []) ++ rest)) (one-deeper n)
            ∙ members-read ms fits (suc n) w k (u ++ 40 ∷ []) rest
            ∙ ap (λ (l : List ℕ). read_text (reading w k l (behind_list (suc n))) rest) (append_assoc u (40 ∷ []) (members_spelling ms ++ 41 ∷ []));
      }

  members-read : (ms : Members) → have_value_words ms ≡ true → (n : ℕ) (w : List OperandText) (k u rest : List ℕ)
      → read_text (reading w k u (at_member (suc n))) ((members_spelling ms ++ 41 ∷ []) ++ rest) ≡ read_text (reading w k (u ++ (members_spelling ms ++ 41 ∷ [])) (behind_list n)) rest
  members-read (alone v) fits n w k u rest =
      let r = member-read v fits n w k u (41 ∷ rest) in
      ap (λ (l : List ℕ). read_text (reading w k u (at_member (suc n))) l) (append_assoc (value_spelling v) (41 ∷ []) rest)
      ∙ r.read
      ∙ r.behind.bracket w k (u ++ value_spelling v) rest
      ∙ ap (λ (l : List ℕ). read_text (reading w k l (behind_list n)) rest) (append_assoc u (value_spelling v) (41 ∷ []))
  members-read (followed v ms) fits n w k u rest =
      let (here, there) = and_parts (has_value_words v) (have_value_words ms) fits in
      let tail : List ℕ = members_spelling ms ++ 41 ∷ [] in
      let r = member-read v here n w k u (44 ∷ (tail ++ rest)) in
      let front : ((value_spelling v ++ 44 ∷ members_spelling ms) ++ 41 ∷ []) ++ rest ≡ value_spelling v ++ 44 ∷ (tail ++ rest) = simp append_assoc in
      let back : ((u ++ value_spelling v) ++ 44 ∷ []) ++ tail ≡ u ++ ((value_spelling v ++ 44 ∷ members_spelling ms) ++ 41 ∷ []) = simp append_assoc in
      ap (λ (l : List ℕ). read_text (reading w k u (at_member (suc n))) l) front
      ∙ r.read
      ∙ r.behind.comma w k (u ++ value_spelling v) (tail ++ rest)
      ∙ members-read ms there n w k ((u ++ value_spelling v) ++ 44 ∷ []) rest
      ∙ ap (λ (l : List ℕ). read_text (reading w k l (behind_list n)) rest) back

-- ---- operands

-- behind an operand: a comma begins the next, and the text may end
record IsBehindOperand (p : Place) : Type 0 where
  comma : (w : List OperandText) (k u rest : List ℕ) → read_text (reading w k u p) (44 ∷ rest) ≡ read_text (reading (w ++ record { keyword = k; value = u } ∷ []) [] [] in_keyword) rest
  ends : (w : List OperandText) (k u : List ℕ) → ended (reading w k u p) ≡ Some (w ++ record { keyword = k; value = u } ∷ [])

record IsOperandRead (w : List OperandText) (o : KeywordOperand) (from : Reading) (text rest : List ℕ) : Type 0 where
  place : Place
  behind : IsBehindOperand place
  read : read_text from (text ++ rest) ≡ read_text (reading w o.keyword (value_spelling o.value) place) rest

value-read : (v : Value) → nat_lt 0 (length (value_spelling v)) ≡ true → has_value_words v ≡ true → (w : List OperandText) (k rest : List ℕ)
    → IsOperandRead w (record { keyword = k; value = v }) (reading w k [] at_value) (value_spelling v) rest
value-read (word []) some fits w k rest = absurd (cc)
value-read (word (b ∷ x)) some fits w k rest =
    let (here, more) = and_parts (is_value_byte b) (list_all is_value_byte x) fits in
    record {
      place = in_value;
      behind = record { comma = λ w k u rest. refl; ends = λ w k u. refl };
      read = step (is_value_byte b) (reading w k (b ∷ []) in_value) _ (x ++ rest) here ∙ value-word-read x more w k (b ∷ []) rest;
    }
value-read (bracketed ms) some fits w k rest =
    record {
      place = behind_list 0;
      behind = record { comma = λ w k u rest. refl; ends = λ w k u. refl };
      read = members-read ms fits 0 w k (40 ∷ []) rest;
    }

operand-read : (o : KeywordOperand) → may_stand o ≡ true → (w : List OperandText) (rest : List ℕ)
    → IsOperandRead w o (reading w [] [] in_keyword) (operand_spelling o) rest
operand-read o fits w rest =
    let (keyword, value) = and_parts _ _ fits in
    let (some, all) = and_parts _ _ keyword in
    let (some_value, words) = and_parts _ _ value in
    let r = value-read o.value some_value words w o.keyword rest in
    record {
      place = r.place;
      behind = r.behind;
      read = ap (λ (l : List ℕ). read_text (reading w [] [] in_keyword) l) (append_assoc o.keyword (61 ∷ value_spelling o.value) rest)
          ∙ keyword-read o.keyword all w [] [] (61 ∷ (value_spelling o.value ++ rest))
          ∙ step (nat_lt 0 (length o.keyword)) (reading w o.keyword [] at_value) _ (value_spelling o.value ++ rest) some
          ∙ r.read;
    }

-- one operand and those behind commas are read with their texts, and the text may end there
operands-read : (os : List KeywordOperand) → list_all may_stand os ≡ true → (o : KeywordOperand) → may_stand o ≡ true → (w : List OperandText)
    → option_and_then ended (read_text (reading w [] [] in_keyword) (operand_spelling o ++ behind_commas os)) ≡ Some (w ++ text_of o ∷ map text_of os)
operands-read [] all o fits w =
    let r = operand-read o fits w [] in
    ap (λ (q : Option Reading). option_and_then ended q) r.read ∙ r.behind.ends w o.keyword (value_spelling o.value)
operands-read (p ∷ os) all o fits w =
    let (here, more) = and_parts _ _ all in
    let r = operand-read o fits w (behind_commas (p ∷ os)) in
    ap (λ (q : Option Reading). option_and_then ended q) (r.read ∙ r.behind.comma w o.keyword (value_spelling o.value) (operand_spelling p ++ behind_commas os))
    ∙ operands-read os more p here (w ++ text_of o ∷ [])
    ∙ ap Some (append_assoc w (text_of o ∷ []) (text_of p ∷ map text_of os))

-- what is spelled as operands that may stand is read as their texts
pub read_spelling : (os : List KeywordOperand) → list_all may_stand os ≡ true → operands_in (operands_spelling os) ≡ Some (map text_of os)
read_spelling [] all = refl
read_spelling (o ∷ os) all =
    let (here, more) = and_parts _ _ all in operands-read os more o here []

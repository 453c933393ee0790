-- Operands that are spelled alike are the same.
use Rattle.std.proofs.Common.{◌≡◌, ℕ, List, [], ◌∷◌, ◌++◌, Bool, true, false, Some, refl, ap, sym, ◌∙◌, arith, append_assoc}
use Rattle.std.specs.Prelude.{map, not, ◌&&◌, ◌==◌}
use Rattle.std.specs.List.{list_all}
use Rattle.std.proofs.lemmas.Bool.{and_parts}
use Rattle.std.proofs.lemmas.List.{append-nil}
use Rattle.hd_macro.specs.Statements.{OperandText}
use Rattle.hd_macro.specs.Operands.{is_value_byte}
use Rattle.hd_macro.specs.Grammar.{Value, word, bracketed, Members, alone, followed, KeywordOperand, value_spelling, members_spelling, has_value_words, have_value_words, may_stand, text_of}
use Rattle.hd_macro.specs.Laws.{operands_in, OneListIsSpelled}
use Rattle.hd_macro.proofs.ReadSpellings.{read_spelling}

-- what may stand behind a value: nothing, or a byte that is neither of a word nor opens a list
abbrev stops : List ℕ → Bool
stops [] = true
stops (b ∷ r) = not (is_value_byte b) && not (b == 40)

word-stops : (b : ℕ) (r q : List ℕ) → is_value_byte b ≡ true → stops r ≡ true → r ≡ b ∷ q → ⊥
word-stops b r q here stop e = clash (is_value_byte b) (not (b == 40)) here (sym (ap stops e) ∙ stop) where
  clash : (c d : Bool) → c ≡ true → (not c && d) ≡ true → ⊥
  clash true d e h = cc
  clash false d e h = cc

-- words that are spelled alike
word-once : (w y r q : List ℕ) → list_all is_value_byte w ≡ true → list_all is_value_byte y ≡ true → stops r ≡ true → stops q ≡ true → w ++ r ≡ y ++ q → (w ≡ y) × (r ≡ q)
word-once [] [] r q all_w all_y stop_r stop_q e = (refl, e)
word-once [] (b ∷ y) r q all_w all_y stop_r stop_q e = absurd (word-stops b r (y ++ q) (and_parts (is_value_byte b) (list_all is_value_byte y) all_y).0 stop_r e)
word-once (b ∷ w) [] r q all_w all_y stop_r stop_q e = absurd (word-stops b q (w ++ r) (and_parts (is_value_byte b) (list_all is_value_byte w) all_w).0 stop_q (sym e))
word-once (b ∷ w) (c ∷ y) r q all_w all_y stop_r stop_q e =
    let same : b ≡ c = cc in
    let tails : w ++ r ≡ y ++ q = cc in
    let (words, rests) = word-once w y r q (and_parts (is_value_byte b) (list_all is_value_byte w) all_w).1 (and_parts (is_value_byte c) (list_all is_value_byte y) all_y).1 stop_r stop_q tails in
    (cc, rests)

-- a word is spelled unlike a list
word-is-no-list : (w r q : List ℕ) → list_all is_value_byte w ≡ true → stops r ≡ true → w ++ r ≡ 40 ∷ q → ⊥
word-is-no-list [] r q all stop e = absurd (cc (sym (ap stops e) ∙ stop))
word-is-no-list (b ∷ w) r q all stop e =
    let first : b ≡ 40 = cc in
    absurd (cc (sym (ap is_value_byte first) ∙ (and_parts (is_value_byte b) (list_all is_value_byte w) all).0))

-- members and the bracket behind them
around : (ms : Members) (r : List ℕ) → (members_spelling ms ++ 41 ∷ []) ++ r ≡ members_spelling ms ++ 41 ∷ r
around ms r = append_assoc (members_spelling ms) (41 ∷ []) r

more-around : (v : Value) (ms : Members) (r : List ℕ) → (value_spelling v ++ 44 ∷ members_spelling ms) ++ 41 ∷ r ≡ value_spelling v ++ 44 ∷ (members_spelling ms ++ 41 ∷ r)
more-around v ms r = append_assoc (value_spelling v) (44 ∷ members_spelling ms) (41 ∷ r)

-- a bracket is no comma
first-of : List ℕ → ℕ
first-of [] = 0
first-of (b ∷ l) = b

comma-is-no-bracket : (r q : List ℕ) → ◌≡◌ {A = List ℕ} (41 ∷ r) (44 ∷ q) → ⊥
unfolding first-of
comma-is-no-bracket r q e = let numbers : ◌≡◌ {A = ℕ} 41 44 = ap first-of e in omega (arith, numbers)

mutual
  value-once : (v : Value) → has_value_words v ≡ true → (x : Value) → has_value_words x ≡ true → (r q : List ℕ) → stops r ≡ true → stops q ≡ true
      → value_spelling v ++ r ≡ value_spelling x ++ q → (v ≡ x) × (r ≡ q)
  value-once (word w) fits (word y) fits_x r q stop_r stop_q e =
      let (words, rests) = word-once w y r q fits fits_x stop_r stop_q e in (ap word words, rests)
  value-once (word w) fits (bracketed ns) fits_x r q stop_r stop_q e = absurd (word-is-no-list w r _ fits stop_r e)
  value-once (bracketed ms) fits (word y) fits_x r q stop_r stop_q e = absurd (word-is-no-list y q _ fits_x stop_q (sym e))
  value-once (bracketed ms) fits (bracketed ns) fits_x r q stop_r stop_q e =
      let inner : (members_spelling ms ++ 41 ∷ []) ++ r ≡ (members_spelling ns ++ 41 ∷ []) ++ q = cc in
      let (members, rests) = members-once ms fits ns fits_x r q (sym (around ms r) ∙ inner ∙ around ns q) in
      (ap bracketed members, rests)

  members-once : (ms : Members) → have_value_words ms ≡ true → (ns : Members) → have_value_words ns ≡ true → (r q : List ℕ)
      → members_spelling ms ++ 41 ∷ r ≡ members_spelling ns ++ 41 ∷ q → (ms ≡ ns) × (r ≡ q)
  members-once (alone v) fits (alone x) fits_n r q e =
      let (values, rests) = value-once v fits x fits_n (41 ∷ r) (41 ∷ q) refl refl e in (ap alone values, cc)
  members-once (alone v) fits (followed x ns) fits_n r q e =
      let (values, rests) = value-once v fits x (and_parts _ _ fits_n).0 (41 ∷ r) (44 ∷ (members_spelling ns ++ 41 ∷ q)) refl refl (e ∙ more-around x ns q) in
      absurd (comma-is-no-bracket r _ rests)
  members-once (followed v ms) fits (alone x) fits_n r q e =
      let (values, rests) = value-once v (and_parts _ _ fits).0 x fits_n (44 ∷ (members_spelling ms ++ 41 ∷ r)) (41 ∷ q) refl refl (sym (more-around v ms r) ∙ e) in
      absurd (comma-is-no-bracket q _ (sym rests))
  members-once (followed v ms) fits (followed x ns) fits_n r q e =
      let (values, behind) = value-once v (and_parts _ _ fits).0 x (and_parts _ _ fits_n).0 (44 ∷ (members_spelling ms ++ 41 ∷ r)) (44 ∷ (members_spelling ns ++ 41 ∷ q)) refl refl
      (sym (more-around v ms r) ∙ e ∙ more-around x ns q) in
      let inner : members_spelling ms ++ 41 ∷ r ≡ members_spelling ns ++ 41 ∷ q = cc in
      let (members, rests) = members-once ms (and_parts _ _ fits).1 ns (and_parts _ _ fits_n).1 r q inner in
      (ap (λ (y : Value). followed y ms) values ∙ ap (λ (l : Members). followed x l) members, rests)

words : (o : KeywordOperand) → may_stand o ≡ true → has_value_words o.value ≡ true
words o fits = (and_parts _ _ (and_parts _ _ fits).1).1

-- operands with the same text are the same
operand-once : (o p : KeywordOperand) → may_stand o ≡ true → may_stand p ≡ true → text_of o ≡ text_of p → o ≡ p
operand-once o p fits_o fits_p e =
    let keywords : o.keyword ≡ p.keyword = ap (λ (t : OperandText). t.keyword) e in
    let spelled : value_spelling o.value ≡ value_spelling p.value = ap (λ (t : OperandText). t.value) e in
    let (values, rests) = value-once o.value (words o fits_o) p.value (words p fits_p) [] [] refl refl
    (append-nil (value_spelling o.value) ∙ spelled ∙ sym (append-nil (value_spelling p.value))) in
    ap (λ (k : List ℕ). record { keyword = k; value = o.value }) keywords ∙ ap (λ (v : Value). record { keyword = p.keyword; value = v }) values

texts-once : (os ps : List KeywordOperand) → list_all may_stand os ≡ true → list_all may_stand ps ≡ true → map text_of os ≡ map text_of ps → os ≡ ps
texts-once [] [] all_o all_p e = refl
texts-once [] (p ∷ ps) all_o all_p e = absurd (cc)
texts-once (o ∷ os) [] all_o all_p e = absurd (cc)
texts-once (o ∷ os) (p ∷ ps) all_o all_p e =
    let first : text_of o ≡ text_of p = cc in
    let others : map text_of os ≡ map text_of ps = cc in
    let here : o ≡ p = operand-once o p (and_parts _ _ all_o).0 (and_parts _ _ all_p).0 first in
    let there : os ≡ ps = texts-once os ps (and_parts _ _ all_o).1 (and_parts _ _ all_p).1 others in
    ap (λ (x : KeywordOperand). x ∷ os) here ∙ ap (λ (l : List KeywordOperand). p ∷ l) there

same_Some : (a b : List OperandText) → Some a ≡ Some b → a ≡ b
same_Some a b e = cc

pub one-list-is-spelled : OneListIsSpelled
one-list-is-spelled os ps all_o all_p e =
    texts-once os ps all_o all_p (same_Some _ _ (sym (read_spelling os all_o) ∙ ap operands_in e ∙ read_spelling ps all_p))

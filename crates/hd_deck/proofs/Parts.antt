-- What a line does to the call before it.
use Rattle.std.proofs.Common.{◌≡◌, ◌≢◌, inl, inr, arith, ℕ, List, [], ◌∷◌, length, drop, cond, Bool, true, false, Option, Some, None, Ok, Err, refl, ap, sym, subst, ◌∙◌}
use Rattle.std.specs.Prelude.{nat_lt, nat_le, ◌==◌, ◌&&◌, ◌||◌, unwrap_or}
use Rattle.std.specs.Option.{option_map_or}
use Rattle.std.proofs.lemmas.Bool.{and_parts}
use Rattle.std.proofs.lemmas.Bool.Decides.{nat_tests}
use Rattle.std.proofs.lemmas.List.{append-nil}
use Rattle.hd_lines.specs.Blanks.{is_blank}
use Rattle.hd_dbd.specs.Calls.{CallText}
use Rattle.hd_deck.specs.declared.deck.DeckFault.TheVariants.{K1, K2, K3, K4, K5, K6, K7}
use Rattle.hd_deck.specs.Deck.{column, number_in, hex_bytes, Statement, comment, select, call, argument, area_bytes, read_select, repeat_in, has_function, call_in, read_call, belongs_to_call, read_hex, read_part, read_line}
use Rattle.hd_deck.specs.CallLines.{with_argument, with_bytes, with_part, with_line, ends_call}
use Rattle.hd_deck.proofs.Choices.{Said, true-is, same_said, by-test, guard-ok, map-or-ok, long-line}

-- the line does so much to a call, and a call is open before it if it belongs to one
abbrev pub Acts : Statement → Bool → List ℕ → Type 0
Acts comment is_open line = (ends_call line ≡ false) × ((c : CallText) → with_line line c ≡ c)
Acts (select k) is_open line = ends_call line ≡ true
Acts (call k text) is_open line = (ends_call line ≡ true) × (text ≡ call_in line)
Acts (argument ssa) is_open line = (is_open ≡ true) × (ends_call line ≡ false) × ((c : CallText) → with_line line c ≡ with_argument ssa c)
Acts (area_bytes bytes) is_open line = (is_open ≡ true) × (ends_call line ≡ false) × ((c : CallText) → with_line line c ≡ with_bytes bytes c)

-- ---- by the first column

abbrev ends_by : ℕ → Bool
ends_by x = x == 83 || x == 76

abbrev line_by : ℕ → List ℕ → CallText → CallText
line_by x line c =
    cond (x == 67 || x == 68 || x == 72)
    (with_part (cond (x == 67) (Ok (argument (drop 11 line))) (cond (x == 68) (Ok (area_bytes (drop 1 line))) (read_hex 0 line))) c) c

blank_column : (line : List ℕ) → is_blank line ≡ true → column line 1 ≡ 32
blank_column [] e = refl
blank_column (b ∷ bs) e = true-is b 32 (and_parts (b == 32) (is_blank bs) e).0

nothing_by : (line : List ℕ) (x : ℕ) → (ends_by x ≡ false) × ((c : CallText) → line_by x line c ≡ c) → column line 1 ≡ x → Acts comment false line
nothing_by line x acts e = subst (λ (y : ℕ). (ends_by y ≡ false) × ((c : CallText) → line_by y line c ≡ c)) (sym e) acts

last-part : (a b c : Bool) → a ≡ false → b ≡ false → (a || b || c) ≡ true → c ≡ true
last-part true b c d e f = absurd (cc)
last-part false true c d e f = absurd (cc)
last-part false false c d e f = f

-- ---- lines that belong to a call

pub argument_line : (line : List ℕ) (c : CallText) → column line 1 ≡ 67 → with_line line c ≡ with_argument (drop 11 line) c
argument_line line c e = subst (λ (x : ℕ). line_by x line c ≡ with_argument (drop 11 line) c) (sym e) refl

pub data_line : (line : List ℕ) (c : CallText) → column line 1 ≡ 68 → with_line line c ≡ with_bytes (drop 1 line) c
data_line line c e = subst (λ (x : ℕ). line_by x line c ≡ with_bytes (drop 1 line) c) (sym e) refl

pub hex_line : (line : List ℕ) (c : CallText) → column line 1 ≡ 72 → with_line line c ≡ with_bytes (unwrap_or (hex_bytes (drop 1 line)) []) c
hex_line line c e = subst (λ (x : ℕ). line_by x line c ≡ with_bytes (unwrap_or (hex_bytes (drop 1 line)) []) c) (sym e) (by_bytes (hex_bytes (drop 1 line))) where
  by_bytes : (o : Option (List ℕ)) → with_part (option_map_or (λ b. Ok (area_bytes b)) o (Err (K7 0))) c ≡ with_bytes (unwrap_or o []) c
  by_bytes None = ap (λ (area : List ℕ). record { function = c.function; ssas = c.ssas; area = area }) (sym (append-nil c.area))
  by_bytes (Some bytes) = refl

pub other_line : (line : List ℕ) (c : CallText) → column line 1 ≢ 67 → column line 1 ≢ 68 → column line 1 ≢ 72 → with_line line c ≡ c
other_line line c a d h = ap (λ (b : Bool). cond b (with_part (read_part 0 line) c) c) (outside (column line 1) a d h) where
  outside : (x : ℕ) → x ≢ 67 → x ≢ 68 → x ≢ 72 → (x == 67 || x == 68 || x == 72) ≡ false
  outside x a d h = grind (arith, nat_tests)

-- ---- a line that is read

module _ (pcbs n : ℕ) (is_open : Bool) (line : List ℕ) (s : Statement) where
  abbrev It : Type 0
  It = Acts s is_open line

  known : (t : Statement) → ◌≡◌ {A = Said} (Ok t) (Ok s) → Acts t is_open line → It
  known t e acts = subst (λ (u : Statement). Acts u is_open line) (same_said t s e) acts

  comment-acts : (is_blank line || column line 1 == 42) ≡ true → Acts comment is_open line
  comment-acts e = by_blank (is_blank line) refl e where
    by_blank : (b : Bool) → is_blank line ≡ b → (b || column line 1 == 42) ≡ true → Acts comment is_open line
    by_blank true is e = nothing_by line 32 (refl, λ c. refl) (blank_column line is)
    by_blank false is e = nothing_by line 42 (refl, λ c. refl) (true-is (column line 1) 42 e)

  select-acts : (column line 1 == 83) ≡ true → read_select pcbs n line ≡ Ok s → It
  select-acts e h =
      let (k, is, gives) = map-or-ok (λ k. cond (nat_lt 0 k && nat_le k pcbs) (Ok (select k)) (Err (K3 n))) (number_in (drop 1 line)) (K3 n) s h in
      let (some_pcb, gives_it) = guard-ok (nat_lt 0 k && nat_le k pcbs) (Ok (select k)) (K3 n) s gives in
      known (select k) gives_it (subst (λ (x : ℕ). ends_by x ≡ true) (sym (true-is (column line 1) 83 e)) refl)

  call-acts : (column line 1 == 76) ≡ true → read_call n line ≡ Ok s → It
  call-acts e h =
      let (k, often, gives) = map-or-ok (λ k. cond (has_function line) (Ok (call k (call_in line))) (Err (K2 n))) (repeat_in line) (K5 n) s h in
      let (has, gives_it) = guard-ok (has_function line) (Ok (call k (call_in line))) (K2 n) s gives in
      known (call k (call_in line)) gives_it (subst (λ (x : ℕ). ends_by x ≡ true) (sym (true-is (column line 1) 76 e)) refl, refl)

  hex-acts : (column line 1 == 72) ≡ true → is_open ≡ true → read_hex n line ≡ Ok s → It
  hex-acts e opened h =
      let (bytes, is, gives) = map-or-ok (λ bytes. Ok (area_bytes bytes)) (hex_bytes (drop 1 line)) (K7 n) s h in
      known (area_bytes bytes) gives (
        opened,
        subst (λ (x : ℕ). ends_by x ≡ false) (sym (true-is (column line 1) 72 e)) refl,
        λ c. hex_line line c (true-is (column line 1) 72 e) ∙ ap (λ (o : Option (List ℕ)). with_bytes (unwrap_or o []) c) is,
      )

  part-acts : belongs_to_call line ≡ true → is_open ≡ true → read_part n line ≡ Ok s → It
  part-acts belongs opened h =
      elim (by-test (column line 1 == 67) (Ok (argument (drop 11 line))) (cond (column line 1 == 68) (Ok (area_bytes (drop 1 line))) (read_hex n line)) s h) [
        | inl p ↦ known (argument (drop 11 line)) p.1
            (opened, subst (λ (x : ℕ). ends_by x ≡ false) (sym (true-is (column line 1) 67 p.0)) refl, λ c. argument_line line c (true-is (column line 1) 67 p.0))
        | inr p ↦ (elim (by-test (column line 1 == 68) (Ok (area_bytes (drop 1 line))) (read_hex n line) s p.1) [
          | inl q ↦ known (area_bytes (drop 1 line)) q.1
              (opened, subst (λ (x : ℕ). ends_by x ≡ false) (sym (true-is (column line 1) 68 q.0)) refl, λ c. data_line line c (true-is (column line 1) 68 q.0))
          | inr q ↦ hex-acts (last-part (column line 1 == 67) (column line 1 == 68) (column line 1 == 72) p.0 q.0 belongs) opened q.1
        ])
      ]

  other-acts : cond (column line 1 == 83) (read_select pcbs n line)
      (cond (column line 1 == 76) (read_call n line)
      (cond (belongs_to_call line) (cond is_open (read_part n line) (Err (K4 n))) (Err (K1 n)))) ≡ Ok s → It
  other-acts h =
      let part : Said = cond (belongs_to_call line) (cond is_open (read_part n line) (Err (K4 n))) (Err (K1 n)) in
      elim (by-test (column line 1 == 83) (read_select pcbs n line) (cond (column line 1 == 76) (read_call n line) part) s h) [
        | inl p ↦ select-acts p.0 p.1
        | inr p ↦ (elim (by-test (column line 1 == 76) (read_call n line) part s p.1) [
          | inl q ↦ call-acts q.0 q.1
          | inr q ↦ (let (belongs, opens) = guard-ok (belongs_to_call line) (cond is_open (read_part n line) (Err (K4 n))) (K1 n) s q.1 in
              let (opened, gives) = guard-ok is_open (read_part n line) (K4 n) s opens in
              part-acts belongs opened gives)
        ])
      ]

  -- a line that is read as something acts so
  pub line-acts : read_line pcbs n is_open line ≡ Ok s → It
  line-acts h =
      let rest : Said = cond (column line 1 == 83) (read_select pcbs n line)
      (cond (column line 1 == 76) (read_call n line)
      (cond (belongs_to_call line) (cond is_open (read_part n line) (Err (K4 n))) (Err (K1 n)))) in
      let (short, is) = long-line (nat_lt 255 (length line)) (cond (is_blank line || column line 1 == 42) (Ok comment) rest) (K6 n) s h in
      elim (by-test (is_blank line || column line 1 == 42) (Ok comment) rest s is) [
        | inl p ↦ known comment p.1 (comment-acts p.0)
        | inr p ↦ other-acts p.1
      ]

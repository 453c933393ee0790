-- A line is read as what it is spelled to say.
use Rattle.std.proofs.Common.{◌≡◌, ◌≢◌, ◌⊎◌, inl, inr, ℕ, ◌+◌, ◌<◌, ◌≤◌, List, [], ◌∷◌, ◌++◌, length, take, drop, cond, Bool, true, false, Option, Some, None, Result, Ok, Err, refl, ap, sym, subst, ◌∙◌, arith}
use Rattle.std.specs.Prelude.{nat_lt, nat_le, ◌==◌, ◌&&◌, ◌||◌}
use Rattle.std.specs.Option.{option_map_or}
use Rattle.std.specs.List.{prefix_len}
use Rattle.std.proofs.Math.Seq.{drop-append_seam}
use Rattle.std.proofs.lemmas.Bool.{and_parts, and_from, cond-true, cond-false}
use Rattle.std.proofs.lemmas.Bool.Decides.{nat_tests}
use Rattle.std.proofs.lemmas.List.{take-append-drop, length-append, length-drop}
use Rattle.hd_lines.specs.Blanks.{is_blank}
use Rattle.hd_dbd.specs.Naming.{is_letter}
use Rattle.hd_deck.specs.declared.deck.DeckFault.{DeckFault}
use Rattle.hd_deck.specs.declared.deck.DeckFault.TheVariants.{K1, K2, K3, K4, K5, K6, K7}
use Rattle.hd_deck.specs.Deck.{column, columns, number_in, hex_bytes, Statement, comment, select, call, argument, area_bytes, read_select, repeat_in, is_function, has_function, ssas_in, call_in, read_call, belongs_to_call, read_hex, read_part, read_line}
use Rattle.hd_deck.specs.Spelling.{IsWord, IsNumber, IsCount, call_text, IsHead, IsSpelled, blank_line, star_line, s_line, l_line, l_line_with_argument, c_line, d_line, h_line, Says}
use Rattle.hd_deck.proofs.Choices.{Said, true-is, same_said, by-test, guard-ok, map-or-ok}
use Rattle.hd_deck.proofs.SpelledWords.{below-true, true-below, count_in, word-read, word-spelled, number-read, number-spelled, count-read, count-spelled}
use Rattle.hd_deck.proofs.SpelledHex.{hex-read, hex-spelled}
use Rattle.hd_deck.proofs.SpelledColumns.{padded, columns-of, padded-front, padded-blanks, blanks-wanted, padded-long, head_of, head-length, HasColumns, head-columns, columns-head}

-- what a line says may stand there: the PCB is one of so many, and a call is open before a part of it
abbrev pub MayStand : ℕ → Bool → Statement → Type 0
MayStand pcbs is_open comment = Unit {0}
MayStand pcbs is_open (select k) = (0 < k) × (k ≤ pcbs)
MayStand pcbs is_open (call k text) = Unit {0}
MayStand pcbs is_open (argument ssa) = is_open ≡ true
MayStand pcbs is_open (area_bytes bytes) = is_open ≡ true

-- what a line says that is short enough, by its first column
abbrev other_line : ℕ → ℕ → Bool → List ℕ → Result Statement DeckFault
other_line pcbs n is_open line =
    cond (column line 1 == 83) (read_select pcbs n line)
    (cond (column line 1 == 76) (read_call n line)
    (cond (belongs_to_call line) (cond is_open (read_part n line) (Err (K4 n))) (Err (K1 n))))

abbrev short_line : ℕ → ℕ → Bool → List ℕ → Result Statement DeckFault
short_line pcbs n is_open line = cond (is_blank line || column line 1 == 42) (Ok comment) (other_line pcbs n is_open line)

-- ---- what is spelled so is read so

-- a PCB is one of so many
known-pcb : (pcbs k : ℕ) → 0 < k → k ≤ pcbs → (nat_lt 0 k && nat_le k pcbs) ≡ true
known-pcb pcbs k some known = grind (arith, nat_tests)

select-read : (pcbs n : ℕ) (text : List ℕ) (k : ℕ) → IsNumber text k → 0 < k → k ≤ pcbs → read_select pcbs n (83 ∷ text) ≡ Ok (select k)
select-read pcbs n text k s some known =
    ap (λ (o : Option ℕ). option_map_or (λ k. cond (nat_lt 0 k && nat_le k pcbs) (Ok (select k)) (Err (K3 n))) o (Err (K3 n))) (number-read text k s)
    ∙ cond-true (nat_lt 0 k && nat_le k pcbs) (Ok (select k)) (Err (K3 n)) (known-pcb pcbs k some known)

is-true : (b c : ℕ) → b ≡ c → (b == c) ≡ true
is-true b c e = grind (arith, nat_tests)

-- a call is read by its columns
call-read : (n k : ℕ) (line count function letters : List ℕ) → HasColumns line count function → IsCount count k → IsWord is_letter function letters
    → read_call n line ≡ Ok (call k (call_text function (ssas_in line) []))
call-read n k line count function letters (first, count_is, sixth, function_is, eleventh) often_is word =
    let often : repeat_in line ≡ Some k = ap count_in count_is ∙ count-read count k often_is in
    let has : has_function line ≡ true =
    and_from (column line 6 == 32 && is_function (columns line 7 4)) (column line 11 == 32)
    (and_from (column line 6 == 32) (is_function (columns line 7 4)) (is-true (column line 6) 32 sixth) (ap is_function function_is ∙ word-read is_letter refl function letters word))
    (is-true (column line 11) 32 eleventh) in
    ap (λ (o : Option ℕ). option_map_or (λ k. cond (has_function line) (Ok (call k (call_in line))) (Err (K2 n))) o (Err (K5 n))) often
    ∙ cond-true (has_function line) (Ok (call k (call_in line))) (Err (K2 n)) has
    ∙ ap (λ (bs : List ℕ). Ok (call k (call_text bs (ssas_in line) []))) function_is

-- a line with L in column 1 is read as a call
l-read : (pcbs n : ℕ) (is_open : Bool) (line : List ℕ) → column line 1 ≡ 76 → short_line pcbs n is_open line ≡ read_call n line
l-read pcbs n is_open [] e = absurd (omega (arith, e))
l-read pcbs n is_open (b ∷ bs) e = subst (λ (x : ℕ). short_line pcbs n is_open (x ∷ bs) ≡ read_call n (x ∷ bs)) (sym e) refl

-- the argument of a line of eleven bytes or fewer, and of one that goes further
short-ssas : (line : List ℕ) → length line ≤ 11 → ssas_in line ≡ []
short-ssas line short =
    let e : nat_lt 11 (length line) ≡ false = grind (arith, nat_tests) in cond-false (nat_lt 11 (length line)) (drop 11 line ∷ []) [] e

long-ssas : (head ssa : List ℕ) → length head ≡ 11 → 0 < length ssa → ssas_in (head ++ ssa) ≡ ssa ∷ []
long-ssas head ssa whole some =
    let long : nat_lt 11 (length (head ++ ssa)) ≡ true = below-true 11 (length (head ++ ssa)) (omega (arith, length-append head ssa)) in
    cond-true (nat_lt 11 (length (head ++ ssa))) (drop 11 (head ++ ssa) ∷ []) [] long
    ∙ ap (λ (n : ℕ). drop n (head ++ ssa) ∷ []) (sym whole) ∙ ap (λ (bs : List ℕ). bs ∷ []) (drop-append_seam head ssa)

whole-head : (head function : List ℕ) (k : ℕ) → IsHead head k function → length head ≡ 11
whole-head head function k h = ap length h.spelling ∙ head-length h.count function h.count_columns h.function_columns

head-read : (pcbs n k : ℕ) (is_open : Bool) (line head function : List ℕ) (ssas : List (List ℕ)) → IsHead head k function → padded line ≡ head → ssas_in line ≡ ssas
    → short_line pcbs n is_open line ≡ Ok (call k (call_text function ssas []))
head-read pcbs n k is_open line head function ssas h is said =
    let all = head-columns line h.count function h.count_columns h.function_columns (is ∙ h.spelling) in
    l-read pcbs n is_open line all.0
    ∙ call-read n k line h.count function h.letters all h.count_is h.function_is
    ∙ ap (λ (xs : List (List ℕ)). Ok (call k (call_text function xs []))) said

short-read : (pcbs n : ℕ) (is_open : Bool) (line : List ℕ) (s : Statement) → IsSpelled line s → MayStand pcbs is_open s → short_line pcbs n is_open line ≡ Ok s
short-read pcbs n is_open line _ (blank_line e) may = ap (λ (c : Bool). cond (c || column line 1 == 42) (Ok comment) (other_line pcbs n is_open line)) e
short-read pcbs n is_open _ _ star_line may = refl
short-read pcbs n is_open _ _ (s_line {text = text} {k = k} e) may = select-read pcbs n text k e may.0 may.1
short-read pcbs n is_open line _ (l_line {function = function} {k = k} blanks e h) may =
    let whole : length line + length blanks ≡ 11 = sym (length-append line blanks) ∙ whole-head (line ++ blanks) function k h in
    head-read pcbs n k is_open line (line ++ blanks) function [] h (padded-blanks line blanks e whole) (short-ssas line (omega arith))
short-read pcbs n is_open _ _ (l_line_with_argument {head = head} {ssa = ssa} {function = function} {k = k} h some) may =
    let whole = whole-head head function k h in
    head-read pcbs n k is_open (head ++ ssa) head function (ssa ∷ []) h (padded-front head ssa whole) (long-ssas head ssa whole some)
short-read pcbs n is_open _ _ (c_line {text = text}) may = ap (λ (o : Bool). cond {A = Said} o (Ok (argument (drop 10 text))) (Err (K4 n))) may
short-read pcbs n is_open _ _ (d_line {bytes = bytes}) may = ap (λ (o : Bool). cond {A = Said} o (Ok (area_bytes bytes)) (Err (K4 n))) may
short-read pcbs n is_open _ _ (h_line {digits = digits} {bytes = bytes} e) may =
    ap (λ (o : Bool). cond {A = Said} o (option_map_or (λ bytes. Ok (area_bytes bytes)) (hex_bytes digits) (Err (K7 n))) (Err (K4 n))) may
    ∙ ap (λ (o : Option (List ℕ)). option_map_or (λ bytes. Ok (area_bytes bytes)) o (Err (K7 n))) (hex-read digits bytes e)

pub line-read : (pcbs n : ℕ) (is_open : Bool) (line : List ℕ) (s : Statement) → Says line s → MayStand pcbs is_open s → read_line pcbs n is_open line ≡ Ok s
line-read pcbs n is_open line s says may =
    let short = says.short in
    let e : nat_lt 255 (length line) ≡ false = grind (arith, nat_tests) in
    cond-false (nat_lt 255 (length line)) (Err (K6 n)) (short_line pcbs n is_open line) e ∙ short-read pcbs n is_open line s says.spelled may

-- ---- what is read so is spelled so

-- a line with this byte in column 1, which is no blank, begins with it
begins : (line : List ℕ) (b : ℕ) → (column line 1 == b) ≡ true → b ≢ 32 → line ≡ b ∷ drop 1 line
begins [] b e other = absurd (other (sym (true-is 32 b e)))
begins (x ∷ xs) b e other = ap (λ (y : ℕ). y ∷ xs) (true-is x b e)

module _ (pcbs : ℕ) (is_open : Bool) (line : List ℕ) (n : ℕ) (s : Statement) where
  abbrev Spelled : Type 0
  Spelled = IsSpelled line s × MayStand pcbs is_open s

  -- what the line says is known
  known : (t : Statement) → ◌≡◌ {A = Said} (Ok t) (Ok s) → IsSpelled line t → MayStand pcbs is_open t → Spelled
  known t e spelled may = subst (λ (u : Statement). IsSpelled line u × MayStand pcbs is_open u) (same_said t s e) (spelled, may)

  comment-spelled : (is_blank line || column line 1 == 42) ≡ true → IsSpelled line comment
  comment-spelled e = by_blank (is_blank line) refl e where
    by_blank : (c : Bool) → is_blank line ≡ c → (c || column line 1 == 42) ≡ true → IsSpelled line comment
    by_blank true is e = blank_line is
    by_blank false is e = subst (λ (bs : List ℕ). IsSpelled bs comment) (sym (begins line 42 e (grind arith))) (star_line {text = drop 1 line})

  select-spelled : (column line 1 == 83) ≡ true → read_select pcbs n line ≡ Ok s → Spelled
  select-spelled e h =
      let (k, is, gives) = map-or-ok (λ k. cond (nat_lt 0 k && nat_le k pcbs) (Ok (select k)) (Err (K3 n))) (number_in (drop 1 line)) (K3 n) s h in
      let (some_pcb, gives_it) = guard-ok (nat_lt 0 k && nat_le k pcbs) (Ok (select k)) (K3 n) s gives in
      let some : 0 < k = grind (arith, nat_tests) in
      let pcb : k ≤ pcbs = grind (arith, nat_tests) in
      let spelled : IsSpelled (83 ∷ drop 1 line) (select k) = s_line (number-spelled (drop 1 line) k is) in
      known (select k) gives_it (subst (λ (bs : List ℕ). IsSpelled bs (select k)) (sym (begins line 83 e (grind arith))) spelled) (some, pcb)

  call-spelled : (column line 1 == 76) ≡ true → read_call n line ≡ Ok s → Spelled
  call-spelled e h =
      let (k, often, gives) = map-or-ok (λ k. cond (has_function line) (Ok (call k (call_in line))) (Err (K2 n))) (repeat_in line) (K5 n) s h in
      let (has, gives_it) = guard-ok (has_function line) (Ok (call k (call_in line))) (K2 n) s gives in
      let (front, eleventh) = and_parts (column line 6 == 32 && is_function (columns line 7 4)) (column line 11 == 32) has in
      let (sixth, word) = and_parts (column line 6 == 32) (is_function (columns line 7 4)) front in
      let is : padded line ≡ head_of (columns line 2 4) (columns line 7 4) =
      columns-head line (true-is (column line 1) 76 e) (true-is (column line 6) 32 sixth) (true-is (column line 11) 32 eleventh) in
      let head : IsHead (padded line) k (columns line 7 4) = record {
        count = columns line 2 4;
        spelling = is;
        count_columns = (columns-of line).four_counts;
        count_is = count-spelled (columns line 2 4) k often;
        function_columns = (columns-of line).four_letters;
        letters = take (prefix_len is_letter (columns line 7 4)) (columns line 7 4);
        function_is = word-spelled is_letter (columns line 7 4) word;
      } in
      known (call k (call_in line)) gives_it (by_length (nat_lt 11 (length line)) refl k head) tt
    where
      by_length : (c : Bool) → nat_lt 11 (length line) ≡ c → (k : ℕ) → IsHead (padded line) k (columns line 7 4) → IsSpelled line (call k (call_in line))
      by_length true e k head =
          let long = true-below 11 (length line) e in
          let behind : 0 < length (drop 11 line) = omega (arith, length-drop 11 line) in
          let first : IsHead (take 11 line) k (columns line 7 4) = subst (λ (bs : List ℕ). IsHead bs k (columns line 7 4)) (padded-long line long) head in
          let ssas : drop 11 line ∷ [] ≡ ssas_in line = sym (cond-true (nat_lt 11 (length line)) (drop 11 line ∷ []) [] e) in
          let spelled : IsSpelled (take 11 line ++ drop 11 line) (call k (call_text (columns line 7 4) (drop 11 line ∷ []) [])) = l_line_with_argument first behind in
          subst (λ (xs : List (List ℕ)). IsSpelled line (call k (call_text (columns line 7 4) xs []))) ssas
          (subst (λ (bs : List ℕ). IsSpelled bs (call k (call_text (columns line 7 4) (drop 11 line ∷ []) []))) (take-append-drop 11 line) spelled)
      by_length false e k head =
          let short : length line ≤ 11 = grind (arith, nat_tests) in
          let (blanks, blank, is) = blanks-wanted line short in
          let spelled : IsSpelled line (call k (call_text (columns line 7 4) [] [])) =
          l_line blanks blank (subst (λ (bs : List ℕ). IsHead bs k (columns line 7 4)) is head) in
          subst (λ (xs : List (List ℕ)). IsSpelled line (call k (call_text (columns line 7 4) xs []))) (sym (short-ssas line short)) spelled

  hex-line : (column line 1 == 72) ≡ true → is_open ≡ true → read_hex n line ≡ Ok s → Spelled
  hex-line e opened h =
      let (bytes, is, gives) = map-or-ok (λ bytes. Ok (area_bytes bytes)) (hex_bytes (drop 1 line)) (K7 n) s h in
      let spelled : IsSpelled (72 ∷ drop 1 line) (area_bytes bytes) = h_line (hex-spelled (drop 1 line) bytes is) in
      known (area_bytes bytes) gives (subst (λ (bs : List ℕ). IsSpelled bs (area_bytes bytes)) (sym (begins line 72 e (grind arith))) spelled) opened

  last-part : (a b c : Bool) → a ≡ false → b ≡ false → (a || b || c) ≡ true → c ≡ true
  last-part true b c d e f = absurd (cc)
  last-part false true c d e f = absurd (cc)
  last-part false false c d e f = f

  part-spelled : belongs_to_call line ≡ true → is_open ≡ true → read_part n line ≡ Ok s → Spelled
  part-spelled belongs opened h =
      elim (by-test (column line 1 == 67) (Ok (argument (drop 11 line))) (cond (column line 1 == 68) (Ok (area_bytes (drop 1 line))) (read_hex n line)) s h) [
        | inl p ↦ known (argument (drop 11 line)) p.1
            (subst (λ (bs : List ℕ). IsSpelled bs (argument (drop 11 bs))) (sym (begins line 67 p.0 (grind arith))) (c_line {text = drop 1 line})) opened
        | inr p ↦ (elim (by-test (column line 1 == 68) (Ok (area_bytes (drop 1 line))) (read_hex n line) s p.1) [
          | inl q ↦ known (area_bytes (drop 1 line)) q.1
              (subst (λ (bs : List ℕ). IsSpelled bs (area_bytes (drop 1 bs))) (sym (begins line 68 q.0 (grind arith))) (d_line {bytes = drop 1 line})) opened
          | inr q ↦ hex-line (last-part (column line 1 == 67) (column line 1 == 68) (column line 1 == 72) p.0 q.0 belongs) opened q.1
        ])
      ]

  other-spelled : other_line pcbs n is_open line ≡ Ok s → Spelled
  other-spelled h =
      let part : Said = cond (belongs_to_call line) (cond is_open (read_part n line) (Err (K4 n))) (Err (K1 n)) in
      elim (by-test (column line 1 == 83) (read_select pcbs n line) (cond (column line 1 == 76) (read_call n line) part) s h) [
        | inl p ↦ select-spelled p.0 p.1
        | inr p ↦ (elim (by-test (column line 1 == 76) (read_call n line) part s p.1) [
          | inl q ↦ call-spelled q.0 q.1
          | inr q ↦ (let (belongs, opens) = guard-ok (belongs_to_call line) (cond is_open (read_part n line) (Err (K4 n))) (K1 n) s q.1 in
              let (opened, gives) = guard-ok is_open (read_part n line) (K4 n) s opens in
              part-spelled belongs opened gives)
        ])
      ]

  short-spelled : short_line pcbs n is_open line ≡ Ok s → Spelled
  short-spelled h =
      elim (by-test (is_blank line || column line 1 == 42) (Ok comment) (other_line pcbs n is_open line) s h) [
        | inl p ↦ known comment p.1 (comment-spelled p.0) tt
        | inr p ↦ other-spelled p.1
      ]

long-line : (line : List ℕ) (c : Bool) (x : Said) (n : ℕ) (s : Statement) → cond c (Err (K6 n)) x ≡ Ok s → (c ≡ false) × (x ≡ Ok s)
long-line line true x n s h = absurd (cc)
long-line line false x n s h = (refl, h)

pub line-spelled : (pcbs n : ℕ) (is_open : Bool) (line : List ℕ) (s : Statement) → read_line pcbs n is_open line ≡ Ok s → Says line s × MayStand pcbs is_open s
line-spelled pcbs n is_open line s is =
    let (not_long, rest) = long-line line (nat_lt 255 (length line)) (short_line pcbs n is_open line) n s is in
    let (spelled, may) = short-spelled pcbs is_open line n s rest in
    let short : length line ≤ 255 = grind (arith, nat_tests) in
    (record { short = short; spelled = spelled }, may)

-- The spelling of steps reads back.
use Rattle.std.proofs.Common.{◌≡◌, ℕ, zero, suc, ◌+◌, ◌-◌, ◌*◌, ◌/◌, ◌%◌, ◌<◌, ◌≤◌, List, [], ◌∷◌, ◌++◌, length, take, map, replicate, cond, Bool, true, false, refl, ap, ap₂, sym, subst, ◌∙◌, arith, append_assoc}
use Rattle.std.specs.Prelude.{not, ◌&&◌, nat_lt, nat_le, ◌==◌, flat_map, codes, decimal, slice_index}
use Rattle.std.specs.List.{list_all, slice_split, prefix_len, AllByRecursion}
use Rattle.std.specs.Str.Lines.{lines, lines_of_parts, strip_carriage_return}
use Rattle.std.proofs.lemmas.Bool.{and_parts, and_from, cond-true, cond-false}
use Rattle.std.proofs.lemmas.Bool.Decides.{nat_tests}
use Rattle.std.proofs.lemmas.Fmt.{decimal_by_steps, length-decimal-le}
use Rattle.std.proofs.lemmas.List.{append-nil, length-append}
use Rattle.std.proofs.lemmas.List.Elements.{All-from_recursion, recursion_from_All}
use Rattle.std.proofs.lemmas.List.Folds.{list_all-append}
use Rattle.std.proofs.lemmas.List.Sums.{fold-append}
use Rattle.std.proofs.lemmas.List.Splits.{slice_split_at, length-slice_split}
use Rattle.hd_lines.specs.Digits.{is_digit, value_of}
use Rattle.hd_dbd.specs.Naming.{is_letter}
use Rattle.hd_deck.specs.StepText.{StepText}
use Rattle.hd_deck.specs.Printing.{hex_digit}
use Rattle.hd_deck.specs.Deck.{select, call, argument, area_bytes, is_function}
use Rattle.hd_deck.specs.Spelling.{IsNumber, counted, IsHex, no_bytes, one_byte, call_text, IsHead, s_line, l_line, c_line, h_line, Says, AreParts, no_parts, argument_part, area_part, AreSteps, no_steps, select_line, call_lines}
use Rattle.hd_deck.specs.Canonical.{select_spelling, four_digits, call_spelling, argument_spelling, hex_digits, area_spelling, onto_pieces, pieces, step_lines, spelling, is_kept, is_argument, CanBeSpelled, SpellingReadsBack}
use Rattle.hd_deck.proofs.SpelledWords.{below-true, word-spelled}
use Rattle.hd_deck.proofs.SpelledColumns.{head-length}
use Rattle.hd_deck.proofs.SpelledSteps.{steps-are-spelled}

-- ---- what each line says

-- what the decimal digits of a number are
record AreDigits (n : ℕ) (digits : List ℕ) : Type 0 where
  some : 0 < length digits
  all : list_all is_digit digits ≡ true
  value : value_of digits ≡ n

one-digit : (n : ℕ) → n < 10 → AreDigits n ((48 + n) ∷ [])
one-digit n small =
    let digit : is_digit (48 + n) ≡ true = grind (arith, nat_tests) in
    record { some = omega arith; all = ap (λ (c : Bool). c && true) digit; value = omega arith }

value-of-more : (ds : List ℕ) (d : ℕ) → value_of (ds ++ d ∷ []) ≡ 10 * value_of ds + (d - 48)
value-of-more ds d = fold-append (λ (n d : ℕ). 10 * n + (d - 48)) 0 ds (d ∷ [])

one-more-digit : (n : ℕ) (digits : List ℕ) → 10 ≤ n → AreDigits (n / 10) digits → AreDigits n (digits ++ (48 + n % 10) ∷ [])
one-more-digit n digits large are =
    let digit : is_digit (48 + n % 10) ≡ true = grind (arith, nat_tests) in
    let value = are.value in
    record {
      some = omega (arith, length-append digits ((48 + n % 10) ∷ []));
      all = list_all-append is_digit digits ((48 + n % 10) ∷ [])
          ∙ and_from (list_all is_digit digits) (is_digit (48 + n % 10) && true) are.all (ap (λ (c : Bool). c && true) digit);
      value = value-of-more digits (48 + n % 10) ∙ (let e : 10 * value_of digits + (48 + n % 10 - 48) ≡ n = omega (arith, value) in e);
    }

decimal-digits : (n : ℕ) → n ≤ 255 → AreDigits n (decimal n)
decimal-digits n small = decimal_by_steps AreDigits one-digit one-more-digit n (omega arith)

select-says : (pcb : ℕ) → pcb ≤ 255 → Says (select_spelling pcb) (select pcb)
select-says pcb small =
    let digits = decimal-digits pcb small in
    let short = length-decimal-le 3 pcb (omega arith) (omega arith) (omega arith) in
    let number : IsNumber (decimal pcb) pcb = record {
      before = [];
      behind = decimal pcb;
      spelling = refl;
      blank = refl;
      digits = decimal pcb;
      digits_are = record { behind = []; spelling = sym (append-nil (decimal pcb)); some = digits.some; all = digits.all; blank = refl };
      value = sym digits.value;
    } in
    record { short = omega (arith, short); spelled = s_line number }

four-value : (k : ℕ) → k ≤ 9999 → k ≡ value_of (four_digits k)
four-value k small = omega arith

digit-is : (n : ℕ) → n < 10 → is_digit (48 + n) ≡ true
digit-is n small = grind (arith, nat_tests)

four-digits : (k : ℕ) → k ≤ 9999 → list_all is_digit (four_digits k) ≡ true
four-digits k small =
    and_from (is_digit (48 + k / 1000)) _ (digit-is (k / 1000) (omega arith))
    (and_from (is_digit (48 + k / 100 % 10)) _ (digit-is (k / 100 % 10) (omega arith))
    (and_from (is_digit (48 + k / 10 % 10)) _ (digit-is (k / 10 % 10) (omega arith))
    (and_from (is_digit (48 + k % 10)) true (digit-is (k % 10) (omega arith)) refl)))

call-says : (k : ℕ) (function : List ℕ) → 0 < k → k ≤ 9999 → length function ≡ 4 → is_function function ≡ true
    → Says (call_spelling k function) (call k (call_text function [] []))
call-says k function some few four_columns is =
    let digits = four-digits k few in
    let number : IsNumber (four_digits k) k = record {
      before = [];
      behind = four_digits k;
      spelling = refl;
      blank = refl;
      digits = four_digits k;
      digits_are = record { behind = []; spelling = refl; some = omega arith; all = digits; blank = refl };
      value = four-value k few;
    } in
    let head : IsHead (call_spelling k function) k function = record {
      count = four_digits k;
      spelling = refl;
      count_columns = refl;
      count_is = counted number some;
      function_columns = four_columns;
      letters = take (prefix_len is_letter function) function;
      function_is = word-spelled is_letter function is;
    } in
    record {
      short = omega (arith, head-length (four_digits k) function refl four_columns);
      spelled = l_line [] refl (subst (λ (bs : List ℕ). IsHead bs k function) (sym (append-nil (call_spelling k function))) head);
    }

argument-says : (ssa : List ℕ) → is_argument ssa ≡ true → Says (argument_spelling ssa) (argument ssa)
argument-says ssa fits =
    let (room, kept) = and_parts (nat_le (length ssa) 244) (is_kept ssa) fits in
    let short : length ssa ≤ 244 = grind (arith, nat_tests) in
    record { short = omega (arith, short); spelled = c_line {text = replicate 10 32 ++ ssa} }

hex-spells : (bytes : List ℕ) → list_all (λ b. nat_lt b 256) bytes ≡ true → IsHex (hex_digits bytes) bytes
hex-spells [] all = no_bytes
hex-spells (b ∷ bytes) all =
    let (here, others) = and_parts (nat_lt b 256) (list_all (λ b. nat_lt b 256) bytes) all in
    let byte : b < 256 = grind (arith, nat_tests) in
    let same : 16 * (b / 16) + b % 16 ≡ b = omega arith in
    let spelled : IsHex (hex_digits (b ∷ bytes)) ((16 * (b / 16) + b % 16) ∷ bytes) = one_byte (b / 16) (b % 16) (omega arith) (omega arith) (hex-spells bytes others) in
    subst (λ (x : ℕ). IsHex (hex_digits (b ∷ bytes)) (x ∷ bytes)) same spelled

length-hex_digits : (bytes : List ℕ) → length (hex_digits bytes) ≡ 2 * length bytes
length-hex_digits [] = refl
length-hex_digits (b ∷ bytes) = omega (arith, length-hex_digits bytes)

-- a piece of an area
record IsPiece (bytes : List ℕ) : Type 0 where
  room : length bytes ≤ 127
  all : list_all (λ b. nat_lt b 256) bytes ≡ true

area-says : (bytes : List ℕ) → IsPiece bytes → Says (area_spelling bytes) (area_bytes bytes)
area-says bytes p = let room = p.room in record { short = omega (arith, room, length-hex_digits bytes); spelled = h_line (hex-spells bytes p.all) }

-- ---- the area in pieces

-- pieces that make bytes together
data ArePieces : List (List ℕ) → List ℕ → Type 0 where
  no_piece : ArePieces [] []
  one_piece : {bytes more : List ℕ} {others : List (List ℕ)} → IsPiece bytes → ArePieces others more → ArePieces (bytes ∷ others) (bytes ++ more)

onto-are : (b : ℕ) → nat_lt b 256 ≡ true → (ps : List (List ℕ)) (bytes : List ℕ) → ArePieces ps bytes → ArePieces (onto_pieces b ps) (b ∷ bytes)
onto-are b small _ _ no_piece = one_piece (record { room = omega arith; all = and_from (nat_lt b 256) true small refl }) no_piece
onto-are b small _ _ (one_piece {bytes = bytes} {more = more} {others = others} p rest) = by_room (nat_lt (length bytes) 127) refl where
  by_room : (c : Bool) → nat_lt (length bytes) 127 ≡ c → ArePieces (onto_pieces b (bytes ∷ others)) (b ∷ (bytes ++ more))
  by_room true e =
      let few : length (b ∷ bytes) ≤ 127 = grind (arith, nat_tests) in
      let longer : IsPiece (b ∷ bytes) = record { room = few; all = and_from (nat_lt b 256) (list_all (λ b. nat_lt b 256) bytes) small p.all } in
      subst (λ (ps : List (List ℕ)). ArePieces ps (b ∷ (bytes ++ more))) (sym (cond-true (nat_lt (length bytes) 127) _ _ e)) (one_piece longer rest)
  by_room false e =
      let alone : IsPiece (b ∷ []) = record { room = omega arith; all = and_from (nat_lt b 256) true small refl } in
      subst (λ (ps : List (List ℕ)). ArePieces ps (b ∷ (bytes ++ more))) (sym (cond-false (nat_lt (length bytes) 127) _ _ e)) (one_piece alone (one_piece p rest))

pieces-are : (bytes : List ℕ) → list_all (λ b. nat_lt b 256) bytes ≡ true → ArePieces (pieces bytes) bytes
pieces-are [] all = no_piece
pieces-are (b ∷ bytes) all =
    let (here, others) = and_parts (nat_lt b 256) (list_all (λ b. nat_lt b 256) bytes) all in onto-are b here (pieces bytes) bytes (pieces-are bytes others)

area-parts : (ps : List (List ℕ)) (bytes : List ℕ) → ArePieces ps bytes → AreParts (map area_spelling ps) [] bytes
area-parts _ _ no_piece = no_parts
area-parts _ _ (one_piece {bytes = bytes} {more = more} {others = others} p rest) = area_part (area-says bytes p) (area-parts others more rest)

step-parts : (ssas ps : List (List ℕ)) (bytes : List ℕ) → list_all is_argument ssas ≡ true → ArePieces ps bytes
    → AreParts (map argument_spelling ssas ++ map area_spelling ps) ssas bytes
step-parts [] ps bytes fit are = area-parts ps bytes are
step-parts (ssa ∷ ssas) ps bytes fit are =
    let (here, others) = and_parts (is_argument ssa) (list_all is_argument ssas) fit in argument_part (argument-says ssa here) (step-parts ssas ps bytes others are)

-- ---- the lines

steps-lines : (pcbs pcb : ℕ) (steps : List StepText) → pcbs ≤ 255 → AllByRecursion (CanBeSpelled pcbs) steps → AreSteps pcbs pcb (flat_map step_lines steps) steps
steps-lines pcbs pcb [] few all = no_steps
steps-lines pcbs pcb (s ∷ steps) few (can, others) =
    let known = can.fits.known_pcb in
    select_line (select-says s.pcb (omega arith)) can.fits.some_pcb can.fits.known_pcb
    (call_lines {first = []} (call-says s.repeat s.call.function can.fits.some_call can.fits.few_calls can.function_columns can.function_is)
    (step-parts s.call.ssas (pieces s.call.area) s.call.area can.arguments_fit (pieces-are s.call.area can.area_is_bytes)) (steps-lines pcbs s.pcb steps few others))

-- ---- a deck of these lines

-- bytes above that of a carriage return
abbrev is_above : List ℕ → Bool
is_above bytes = list_all (λ b. nat_lt 13 b) bytes

above-digit : (b : ℕ) → is_digit b ≡ true → nat_lt 13 b ≡ true
above-digit b is = grind (arith, nat_tests)

above-letter : (b : ℕ) → is_letter b ≡ true → nat_lt 13 b ≡ true
above-letter b is = grind (arith, nat_tests)

above-blank : (b : ℕ) → (b == 32) ≡ true → nat_lt 13 b ≡ true
above-blank b is = grind (arith, nat_tests)

above-hex : (d : ℕ) → nat_lt 13 (hex_digit d) ≡ true
above-hex d = by_test (nat_lt d 10) where
  by_test : (c : Bool) → nat_lt 13 (cond c (48 + d) (87 + d)) ≡ true
  by_test true = below-true 13 (48 + d) (omega arith)
  by_test false = below-true 13 (87 + d) (omega arith)

above-all : (p : ℕ → Bool) → ((b : ℕ) → p b ≡ true → nat_lt 13 b ≡ true) → (bs : List ℕ) → list_all p bs ≡ true → is_above bs ≡ true
above-all p each [] all = refl
above-all p each (b ∷ bs) all =
    let (here, others) = and_parts (p b) (list_all p bs) all in and_from (nat_lt 13 b) (is_above bs) (each b here) (above-all p each bs others)

above-both : (xs ys : List ℕ) → is_above xs ≡ true → is_above ys ≡ true → is_above (xs ++ ys) ≡ true
above-both xs ys e f = list_all-append (λ b. nat_lt 13 b) xs ys ∙ and_from (is_above xs) (is_above ys) e f

-- bytes above it end no line
no-feeds : (bs : List ℕ) → is_above bs ≡ true → list_all (λ b. not (b == 10)) bs ≡ true
no-feeds [] above = refl
no-feeds (b ∷ bs) above =
    let (here, others) = and_parts (nat_lt 13 b) (is_above bs) above in
    let other : not (b == 10) ≡ true = grind (arith, nat_tests) in
    and_from (not (b == 10)) (list_all (λ b. not (b == 10)) bs) other (no-feeds bs others)

last-place : (b c : ℕ) (bs : List ℕ) → slice_index (b ∷ c ∷ bs) (length (b ∷ c ∷ bs) - 1) ≡ slice_index (c ∷ bs) (length (c ∷ bs) - 1)
last-place b c bs =
    let place : length (b ∷ c ∷ bs) - 1 ≡ suc (length (c ∷ bs) - 1) = omega arith in ap (λ (i : ℕ). slice_index (b ∷ c ∷ bs) i) place

last-above : (bs : List ℕ) → is_above bs ≡ true → not (slice_index bs (length bs - 1) == 13) ≡ true
last-above [] above = refl
last-above (b ∷ []) above = let (here, others) = and_parts (nat_lt 13 b) true above in let other : not (b == 13) ≡ true = grind (arith, nat_tests) in other
last-above (b ∷ c ∷ bs) above =
    let (here, others) = and_parts (nat_lt 13 b) (is_above (c ∷ bs)) above in
    ap (λ (x : ℕ). not (x == 13)) (last-place b c bs) ∙ last-above (c ∷ bs) others

kept-above : (bs : List ℕ) → is_above bs ≡ true → is_kept bs ≡ true
kept-above bs above = and_from (list_all (λ b. not (b == 10)) bs) (not (slice_index bs (length bs - 1) == 13)) (no-feeds bs above) (last-above bs above)

-- a byte more in front
kept-behind : (b : ℕ) → is_kept (b ∷ []) ≡ true → (bs : List ℕ) → is_kept bs ≡ true → is_kept (b ∷ bs) ≡ true
kept-behind b alone [] kept = alone
kept-behind b alone (c ∷ bs) kept =
    let (no_feed, no_return) = and_parts (list_all (λ b. not (b == 10)) (c ∷ bs)) (not (slice_index (c ∷ bs) (length (c ∷ bs) - 1) == 13)) kept in
    let (here, rest) = and_parts (not (b == 10) && true) (not (b == 13)) alone in
    let (other, nothing) = and_parts (not (b == 10)) true here in
    and_from (list_all (λ b. not (b == 10)) (b ∷ c ∷ bs)) (not (slice_index (b ∷ c ∷ bs) (length (b ∷ c ∷ bs) - 1) == 13))
    (and_from (not (b == 10)) (list_all (λ b. not (b == 10)) (c ∷ bs)) other no_feed) (ap (λ (x : ℕ). not (x == 13)) (last-place b c bs) ∙ no_return)

blanks-kept : (n : ℕ) (bs : List ℕ) → is_kept bs ≡ true → is_kept (replicate n 32 ++ bs) ≡ true
blanks-kept zero bs kept = kept
blanks-kept (suc n) bs kept = kept-behind 32 refl (replicate n 32 ++ bs) (blanks-kept n bs kept)

abbrev AreKept : List (List ℕ) → Type 0
AreKept ls = list_all is_kept ls ≡ true

both-kept : (xs ys : List (List ℕ)) → AreKept xs → AreKept ys → AreKept (xs ++ ys)
both-kept xs ys e f = list_all-append is_kept xs ys ∙ and_from (list_all is_kept xs) (list_all is_kept ys) e f

select-kept : (pcb : ℕ) → pcb ≤ 255 → is_kept (select_spelling pcb) ≡ true
select-kept pcb small = kept-above (select_spelling pcb) (above-all is_digit above-digit (decimal pcb) (decimal-digits pcb small).all)

call-kept : (k : ℕ) (function : List ℕ) → k ≤ 9999 → is_function function ≡ true → is_kept (call_spelling k function) ≡ true
call-kept k function few is =
    let w = word-spelled is_letter function is in
    let letters : List ℕ = take (prefix_len is_letter function) function in
    let above : is_above function ≡ true =
    ap is_above w.spelling ∙ above-both letters w.behind (above-all is_letter above-letter letters w.all) (above-all (λ b. b == 32) above-blank w.behind w.blank) in
    kept-above (call_spelling k function) (above-both (four_digits k) (32 ∷ (function ++ 32 ∷ [])) (above-all is_digit above-digit (four_digits k) (four-digits k few))
    (above-both function (32 ∷ []) above refl))

arguments-kept : (ssas : List (List ℕ)) → list_all is_argument ssas ≡ true → AreKept (map argument_spelling ssas)
arguments-kept [] fit = refl
arguments-kept (ssa ∷ ssas) fit =
    let (here, others) = and_parts (is_argument ssa) (list_all is_argument ssas) fit in
    let (room, kept) = and_parts (nat_le (length ssa) 244) (is_kept ssa) here in
    and_from (is_kept (argument_spelling ssa)) (list_all is_kept (map argument_spelling ssas))
    (kept-behind 67 refl (replicate 10 32 ++ ssa) (blanks-kept 10 ssa kept)) (arguments-kept ssas others)

hex-above : (bytes : List ℕ) → is_above (hex_digits bytes) ≡ true
hex-above [] = refl
hex-above (b ∷ bytes) =
    and_from (nat_lt 13 (hex_digit (b / 16))) _ (above-hex (b / 16)) (and_from (nat_lt 13 (hex_digit (b % 16))) (is_above (hex_digits bytes)) (above-hex (b % 16)) (hex-above bytes))

areas-kept : (ps : List (List ℕ)) → AreKept (map area_spelling ps)
areas-kept [] = refl
areas-kept (p ∷ ps) = and_from (is_kept (area_spelling p)) (list_all is_kept (map area_spelling ps)) (kept-above (area_spelling p) (hex-above p)) (areas-kept ps)

step-kept : (pcbs : ℕ) (s : StepText) → pcbs ≤ 255 → CanBeSpelled pcbs s → AreKept (step_lines s)
step-kept pcbs s few can =
    let known = can.fits.known_pcb in
    let parts : List (List ℕ) = map argument_spelling s.call.ssas ++ map area_spelling (pieces s.call.area) in
    and_from (is_kept (select_spelling s.pcb)) (list_all is_kept (call_spelling s.repeat s.call.function ∷ parts)) (select-kept s.pcb (omega arith))
    (and_from (is_kept (call_spelling s.repeat s.call.function)) (list_all is_kept parts) (call-kept s.repeat s.call.function can.fits.few_calls can.function_is)
    (both-kept (map argument_spelling s.call.ssas) (map area_spelling (pieces s.call.area)) (arguments-kept s.call.ssas can.arguments_fit) (areas-kept (pieces s.call.area))))

steps-kept : (pcbs : ℕ) (steps : List StepText) → pcbs ≤ 255 → AllByRecursion (CanBeSpelled pcbs) steps → AreKept (flat_map step_lines steps)
steps-kept pcbs [] few all = refl
steps-kept pcbs (s ∷ steps) few (can, others) =
    both-kept (step_lines s) (flat_map step_lines steps) (step-kept pcbs s few can) (steps-kept pcbs steps few others)

-- ---- lines with line feeds behind them

not-true : (c : Bool) → not c ≡ true → c ≡ false
not-true true e = absurd (cc)
not-true false e = refl

each-no-feed : (line : List ℕ) → list_all (λ b. not (b == 10)) line ≡ true → AllByRecursion (λ (b : ℕ). (b == 10) ≡ false) line
each-no-feed [] all = tt
each-no-feed (b ∷ bs) all =
    let (here, others) = and_parts (not (b == 10)) (list_all (λ b. not (b == 10)) bs) all in (not-true (b == 10) here, each-no-feed bs others)

line-first : (line : List ℕ) (parts : List (List ℕ)) → 0 < length parts → lines_of_parts (line ∷ parts) ≡ strip_carriage_return line ∷ lines_of_parts parts
line-first line [] some = absurd (omega (arith, some))
line-first line (next ∷ more) some = refl

lines-of : (ls : List (List ℕ)) → AreKept ls → lines (flat_map (λ line. line ++ codes "\n") ls) ≡ ls
lines-of [] kept = refl
lines-of (line ∷ ls) kept =
    let (here, others) = and_parts (is_kept line) (list_all is_kept ls) kept in
    let (no_feed, no_return) = and_parts (list_all (λ b. not (b == 10)) line) (not (slice_index line (length line - 1) == 13)) here in
    let rest : List ℕ = flat_map (λ line. line ++ codes "\n") ls in
    let feed : (λ (b : ℕ). b == 10) 10 ≡ true = refl in
    let split : slice_split (λ b. b == 10) (line ++ 10 ∷ rest) ≡ line ∷ slice_split (λ b. b == 10) rest =
    slice_split_at (λ b. b == 10) line 10 rest (All-from_recursion (λ (b : ℕ). (b == 10) ≡ false) line (each-no-feed line no_feed)) feed in
    ap lines (append_assoc line (10 ∷ []) rest)
    ∙ ap lines_of_parts split
    ∙ line-first line (slice_split (λ b. b == 10) rest) (omega (arith, length-slice_split (λ b. b == 10) rest))
    ∙ ap₂ (λ (l : List ℕ) (more : List (List ℕ)). l ∷ more)
    (cond-false (slice_index line (length line - 1) == 13) _ line (not-true (slice_index line (length line - 1) == 13) no_return)) (lines-of ls others)

pub spelling-reads-back : SpellingReadsBack
spelling-reads-back pcbs steps few all =
    let each = recursion_from_All (CanBeSpelled pcbs) steps all in
    let are = lines-of (flat_map step_lines steps) (steps-kept pcbs steps few each) in
    (steps-are-spelled pcbs (spelling steps) steps).1 (subst (λ (ls : List (List ℕ)). AreSteps pcbs 1 ls steps) (sym are) (steps-lines pcbs 1 steps few each))

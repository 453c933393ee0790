-- Lines of statements are read as these statements.
use Rattle.std.proofs.Common.{◌≡◌, ◌⊎◌, inl, inr, ℕ, suc, ◌+◌, List, [], ◌∷◌, ◌++◌, length, cond, Bool, true, false, Option, Some, None, Result, Ok, Err, refl, ap, sym, ◌∙◌, arith}
use Rattle.std.specs.Prelude.{not, ◌&&◌, nat_lt, option_and_then}
use Rattle.std.specs.Option.{option_map_or}
use Rattle.std.proofs.lemmas.Option.{option_and_then_some}
use Rattle.hd_lines.specs.Reading.{then, before}
use Rattle.hd_macro.specs.Statements.{OperandText, StatementText}
use Rattle.hd_macro.specs.Operands.{Reading, unread, read_at, read_text, ended}
use Rattle.hd_macro.specs.Cards.{goes_on, is_ignored, has_other_byte, word, behind_word, is_listing}
use Rattle.hd_macro.specs.Source.{Open, Step, nothing, operands, remarks, statements_from, read_line, with_piece, ending, finished}
use Rattle.hd_macro.specs.declared.source.LineFault.{LineFault}
use Rattle.hd_macro.specs.declared.source.LineFault.TheVariants.{M4}
use Rattle.hd_macro.specs.Lines.{is_indented, continues_operands, operands_go_on, continued_columns, behind_operation, statement_of, AreRemarks, last, further, IsOperandText, whole, joined, AreOperands, AreStatements, none, ignored, statement}
use Rattle.hd_macro.proofs.Spellings.{operand-text-is-spelled}

-- the statements of the lines behind a line, with those that end with it
abbrev pub behind_step : Step → ℕ → List (List ℕ) → Result (List StatementText) LineFault
behind_step s n lines = before s.done (statements_from s.open_behind n lines)

-- a line without a fault of its own is read by its columns
line-read : (long other : Bool) (x y z : Result Step LineFault) → (not long && not other) ≡ true → cond long x (cond other y z) ≡ z
line-read true other x y z e = absurd (cc)
line-read false true x y z e = absurd (cc)
line-read false false x y z e = refl

before-nothing : (r : Result (List StatementText) LineFault) → before [] r ≡ r
before-nothing (Ok x) = refl
before-nothing (Err e) = refl

-- where a test is known
pub if-true : {A : Type 0} (c : Bool) (x y : A) → c ≡ true → cond c x y ≡ x
if-true true x y e = refl
if-true false x y e = absurd (cc)

pub if-false : {A : Type 0} (c : Bool) (x y : A) → c ≡ false → cond c x y ≡ y
if-false true x y e = absurd (cc)
if-false false x y e = refl

-- a line that is read gives what its step gives
line-gives : (o : Open) (n : ℕ) (line : List ℕ) (more : List (List ℕ)) (r : Result Step LineFault) → read_line o n line ≡ r
    → statements_from o n (line ∷ more) ≡ then r (λ (t : Step). behind_step t (n + 1) more)
line-gives o n line more r e = ap (λ (x : Result Step LineFault). then x (λ (t : Step). behind_step t (n + 1) more)) e

-- the remark of a statement is read to its end
remarks-read : (line : List ℕ) (own : List (List ℕ)) → AreRemarks line own → (s : StatementText) (n : ℕ) (rest : List (List ℕ))
    → behind_step (ending s line) n (own ++ rest) ≡ before (finished s) (statements_from nothing (n + length own) rest)
remarks-read line _ (last e) s n rest =
    let number : n ≡ n + 0 = omega arith in
    ap (λ (t : Step). behind_step t n rest) (if-false (goes_on line) _ _ e)
    ∙ ap (λ (m : ℕ). before (finished s) (statements_from nothing m rest)) number
remarks-read line _ (further {next = next} {more = more} e good blank r) s n rest =
    let number : n + 1 + length more ≡ n + suc (length more) = omega arith in
    let reads : read_line (remarks s) n next ≡ Ok (ending s next) = line-read (nat_lt 80 (length next)) (has_other_byte next) _ _ _ good ∙ if-true (is_indented next) _ _ blank in
    ap (λ (t : Step). behind_step t n (next ∷ (more ++ rest))) (if-true (goes_on line) _ _ e)
    ∙ before-nothing (statements_from (remarks s) n (next ∷ (more ++ rest)))
    ∙ line-gives (remarks s) n next (more ++ rest) _ reads
    ∙ remarks-read next more r s (n + 1) rest
    ∙ ap (λ (m : ℕ). before (finished s) (statements_from nothing m rest)) number

-- ---- operands

-- the operands of a statement that are read so far, and behind these a text
abbrev pub AreRead : StatementText → Reading → List ℕ → List OperandText → Type 0
AreRead s r text os = ((is_listing s.operation ≡ true) × (os ≡ s.operands)) ⊎ ((is_listing s.operation ≡ false) × (option_and_then ended (read_text r text) ≡ Some os))

-- reading a text, and then another
pub read-both : (a b : List ℕ) (r : Reading) → read_text r (a ++ b) ≡ option_and_then (λ (q : Reading). read_text q b) (read_text r a)
read-both [] b r = refl
read-both (x ∷ a) b r = through (read_at r.place r x) (λ s. read-both a b s) where
  through : (o : Option Reading) → ((s : Reading) → read_text s (a ++ b) ≡ option_and_then (λ (q : Reading). read_text q b) (read_text s a))
      → option_and_then (λ (s : Reading). read_text s (a ++ b)) o ≡ option_and_then (λ (q : Reading). read_text q b) (option_and_then (λ (s : Reading). read_text s a) o)
  through None f = refl
  through (Some s) f = f s

-- the text of these columns is read, and the operands do not go on
piece-ends : (s : StatementText) (r : Reading) (n : ℕ) (line columns : List ℕ) (os : List OperandText) → operands_go_on line columns ≡ false → AreRead s r (word columns) os
    → with_piece s r n line (word columns) (behind_word columns) ≡ Ok (ending (record s { operands = os }) line)
piece-ends s r n line columns os e (inl (listing, same)) =
    if-true (is_listing s.operation) _ _ listing ∙ if-false (operands_go_on line columns) _ _ e ∙ ap (λ (l : List OperandText). Ok (ending (record s { operands = l }) line)) (sym same)
piece-ends s r n line columns os e (inr (plain, reads)) =
    option_and_then_some ended (read_text r (word columns)) os reads (λ q is ends.
    if-false (is_listing s.operation) _ _ plain
    ∙ ap (λ (o : Option Reading). option_map_or (λ (q : Reading). cond (operands_go_on line columns) (Ok (record { done = []; open_behind = operands s q }))
    (option_map_or (λ (os : List OperandText). Ok (ending (record s { operands = os }) line)) (ended q) (Err (M4 n)))) o (Err (M4 n))) is
    ∙ if-false (operands_go_on line columns) _ _ e
    ∙ ap (λ (o : Option (List OperandText)). option_map_or (λ (os : List OperandText). Ok (ending (record s { operands = os }) line)) o (Err (M4 n))) ends)

-- the text of these columns is read, and the operands go on
record PieceGoesOn (s : StatementText) (r : Reading) (n : ℕ) (line columns text : List ℕ) (os : List OperandText) : Type 0 where
  reading : Reading
  gives : with_piece s r n line (word columns) (behind_word columns) ≡ Ok (record { done = []; open_behind = operands s reading })
  others : AreRead s reading text os

piece-goes : (s : StatementText) (r : Reading) (n : ℕ) (line columns text : List ℕ) (os : List OperandText) → operands_go_on line columns ≡ true → AreRead s r (word columns ++ text) os
    → PieceGoesOn s r n line columns text os
piece-goes s r n line columns text os e (inl (listing, same)) =
    record { reading = r; gives = if-true (is_listing s.operation) _ _ listing ∙ if-true (operands_go_on line columns) _ _ e; others = inl (listing, same) }
piece-goes s r n line columns text os e (inr (plain, reads)) =
    option_and_then_some ended (read_text r (word columns ++ text)) os reads (λ last is ends.
    option_and_then_some (λ (q : Reading). read_text q text) (read_text r (word columns)) last (sym (read-both (word columns) text r) ∙ is) (λ q first then_last.
    record {
      reading = q;
      gives = if-false (is_listing s.operation) _ _ plain
          ∙ ap (λ (o : Option Reading). option_map_or (λ (q : Reading). cond (operands_go_on line columns) (Ok (record { done = []; open_behind = operands s q }))
          (option_map_or (λ (os : List OperandText). Ok (ending (record s { operands = os }) line)) (ended q) (Err (M4 n)))) o (Err (M4 n))) first
          ∙ if-true (operands_go_on line columns) _ _ e;
      others = inr (plain, ap (λ (o : Option Reading). option_and_then ended o) then_last ∙ ends);
    }))

-- the operands of a statement are read to their end, and then its remark
text-read : (line columns : List ℕ) (own : List (List ℕ)) (text : List ℕ) → IsOperandText line columns own text
    → (s : StatementText) (r : Reading) (n : ℕ) (rest : List (List ℕ)) (os : List OperandText) → AreRead s r text os
    → then (with_piece s r n line (word columns) (behind_word columns)) (λ (t : Step). behind_step t (n + 1) (own ++ rest))
    ≡ before (finished (record s { operands = os })) (statements_from nothing (n + 1 + length own) rest)
text-read line columns own _ (whole e remark) s r n rest os reads =
    ap (λ (x : Result Step LineFault). then x (λ (t : Step). behind_step t (n + 1) (own ++ rest))) (piece-ends s r n line columns os e reads)
    ∙ remarks-read line own remark (record s { operands = os }) (n + 1) rest
text-read line columns _ _ (joined {next = next} {more = more} {text = text} e good here others) s r n rest os reads =
    let p = piece-goes s r n line columns text os e reads in
    let number : n + 1 + 1 + length more ≡ n + 1 + suc (length more) = omega arith in
    let next_read : read_line (operands s p.reading) (n + 1) next ≡ with_piece s p.reading (n + 1) next (word (continued_columns next)) (behind_word (continued_columns next)) =
    line-read (nat_lt 80 (length next)) (has_other_byte next) _ _ _ good ∙ if-true (continues_operands next) _ _ here in
    ap (λ (x : Result Step LineFault). then x (λ (t : Step). behind_step t (n + 1) (next ∷ (more ++ rest)))) p.gives
    ∙ before-nothing (statements_from (operands s p.reading) (n + 1) (next ∷ (more ++ rest)))
    ∙ line-gives (operands s p.reading) (n + 1) next (more ++ rest) _ next_read
    ∙ text-read next (continued_columns next) more text others s p.reading (n + 1) rest os p.others
    ∙ ap (λ (m : ℕ). before (finished (record s { operands = os })) (statements_from nothing m rest)) number

-- ---- statements

-- the operands of a statement are read from nothing
operands-read : (s : StatementText) (text : List ℕ) (os : List OperandText) → s.operands ≡ [] → AreOperands s.operation text os → AreRead s unread text os
operands-read s text os first (inl (listing, are_none)) = inl (listing, are_none ∙ sym first)
operands-read s text os first (inr (plain, spelled)) = inr (plain, (operand-text-is-spelled text os).1 spelled)

-- lines of statements are read as these
pub lines-read : (n : ℕ) (lines : List (List ℕ)) (statements : List StatementText) → AreStatements n lines statements → statements_from nothing n lines ≡ Ok statements
lines-read n _ _ none = refl
lines-read n _ statements (ignored {line = line} {more = more} good comment others) =
    line-gives nothing n line more _ (line-read (nat_lt 80 (length line)) (has_other_byte line) _ _ _ good ∙ if-true (is_ignored line) _ _ comment)
    ∙ before-nothing (statements_from nothing (n + 1) more)
    ∙ lines-read (n + 1) more statements others
lines-read n _ _ (statement {line = line} {own = own} {more = more} {operands = os} {statements = behind} s others) =
    let begun : StatementText = statement_of n line [] in
    line-gives nothing n line (own ++ more) _ (line-read (nat_lt 80 (length line)) (has_other_byte line) _ _ _ s.line_is ∙ if-false (is_ignored line) _ _ s.not_ignored)
    ∙ text-read line (behind_operation line) own s.text s.text_is begun unread n more os (operands-read begun s.text os refl s.operands_are)
    ∙ ap (λ (r : Result (List StatementText) LineFault). before (finished (statement_of n line os)) r) (lines-read (n + 1 + length own) more behind others)

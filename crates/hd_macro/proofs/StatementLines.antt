-- Lines are read as statements just where they are the lines of these statements.
use Rattle.std.proofs.Common.{◌≡◌, ◌⊎◌, inl, inr, ℕ, ◌+◌, List, [], ◌∷◌, ◌++◌, length, cond, Bool, true, false, Option, Some, None, Result, Ok, Err, refl, ap, sym, subst, ◌∙◌, arith}
use Rattle.std.specs.Prelude.{not, ◌&&◌, nat_lt, option_and_then}
use Rattle.std.specs.Option.{option_map_or}
use Rattle.std.specs.Str.Lines.{lines}
use Rattle.hd_lines.specs.Reading.{then, before}
use Rattle.hd_macro.specs.Statements.{OperandText, StatementText}
use Rattle.hd_macro.specs.Operands.{Reading, unread, read_text, ended}
use Rattle.hd_macro.specs.Cards.{goes_on, is_ignored, has_other_byte, word, behind_word, is_listing}
use Rattle.hd_macro.specs.Source.{Open, Step, nothing, operands, remarks, statements_from, read_line, read_open, begin_statement, with_piece, ending, finished}
use Rattle.hd_macro.specs.declared.source.LineFault.{LineFault}
use Rattle.hd_macro.specs.declared.source.LineFault.TheVariants.{M1, M2, M3, M4}
use Rattle.hd_macro.specs.Lines.{is_line, is_indented, continues_operands, operands_go_on, continued_columns, behind_operation, statement_of, AreRemarks, last, further, IsOperandText, whole, joined, AreOperands, IsStatement, AreStatements, none, ignored, statement}
use Rattle.hd_macro.specs.Laws.{SourceIsStatements}
use Rattle.hd_macro.proofs.Spellings.{operand-text-is-spelled}
use Rattle.hd_macro.proofs.ReadLines.{behind_step, if-true, if-false, AreRead, read-both, lines-read}

abbrev Read : Type 0
Read = Result (List StatementText) LineFault

-- ---- what a result without a fault says of its parts

then-ok : (r : Result Step LineFault) (f : Step → Read) (ss : List StatementText) → then r f ≡ Ok ss → (t : Step) × (r ≡ Ok t) × (f t ≡ Ok ss)
then-ok (Ok t) f ss h = (t, refl, h)
then-ok (Err e) f ss h = absurd (cc)

before-ok : (front : List StatementText) (r : Read) (ss : List StatementText) → before front r ≡ Ok ss → (others : List StatementText) × (r ≡ Ok others) × (ss ≡ front ++ others)
before-ok front (Ok others) ss h = (others, refl, cc)
before-ok front (Err e) ss h = absurd (cc)

-- a line that is read has no fault of its own
line-ok : (long other : Bool) (x y : LineFault) (z : Result Step LineFault) (t : Step) → cond long (Err x) (cond other (Err y) z) ≡ Ok t
    → ((not long && not other) ≡ true) × (z ≡ Ok t)
line-ok true other x y z t h = absurd (cc)
line-ok false true x y z t h = absurd (cc)
line-ok false false x y z t h = (refl, h)

-- a test that guards
guard-ok : (c : Bool) (z : Result Step LineFault) (x : LineFault) (t : Step) → cond c z (Err x) ≡ Ok t → (c ≡ true) × (z ≡ Ok t)
guard-ok true z x t h = (refl, h)
guard-ok false z x t h = absurd (cc)

-- ---- what stands behind a line

-- behind a line with column 72 not blank, the lines of a remark, and then statements
record RemarkBehind (s : StatementText) (line : List ℕ) (n : ℕ) (lines : List (List ℕ)) (ss : List StatementText) : Type 0 where
  own : List (List ℕ)
  rest : List (List ℕ)
  others : List StatementText
  lines_are : lines ≡ own ++ rest
  remark : AreRemarks line own
  behind : AreStatements (n + length own) rest others
  are : ss ≡ finished s ++ others

-- behind columns whose operands go on, the lines of these operands, and then statements
record OperandsBehind (s : StatementText) (r : Reading) (line columns : List ℕ) (n : ℕ) (lines : List (List ℕ)) (ss : List StatementText) : Type 0 where
  own : List (List ℕ)
  rest : List (List ℕ)
  others : List StatementText
  text : List ℕ
  found : List OperandText
  lines_are : lines ≡ own ++ rest
  text_is : IsOperandText line columns own text
  behind : AreStatements (n + length own) rest others
  found_is : AreRead s r text found
  are : ss ≡ finished (record s { operands = found }) ++ others

-- behind what stands open
abbrev Behind : Open → ℕ → List (List ℕ) → List StatementText → Type 0
Behind nothing n lines ss = AreStatements n lines ss
Behind (remarks s) n lines ss = (line : List ℕ) → goes_on line ≡ true → RemarkBehind s line n lines ss
Behind (operands s r) n lines ss = (line columns : List ℕ) (r₀ : Reading) → operands_go_on line columns ≡ true
    → ((text : List ℕ) (os : List OperandText) → AreRead s r text os → AreRead s r₀ (word columns ++ text) os)
    → OperandsBehind s r₀ line columns n lines ss

-- lines that are read are those that may stand there
abbrev Later : List (List ℕ) → Type 0
Later lines = (o : Open) (n : ℕ) (ss : List StatementText) → statements_from o n lines ≡ Ok ss → Behind o n lines ss

-- a statement that ends with a line, or whose remark goes on
ending-behind : (c : Bool) (s : StatementText) (line : List ℕ) (n : ℕ) (lines : List (List ℕ)) (ss : List StatementText) → goes_on line ≡ c → Later lines
    → behind_step (cond c (record { done = []; open_behind = remarks s }) (record { done = finished s; open_behind = nothing })) n lines ≡ Ok ss
    → RemarkBehind s line n lines ss
ending-behind true s line n lines ss e later h =
    let (others, is, are) = before-ok [] (statements_from (remarks s) n lines) ss h in
    later (remarks s) n ss (is ∙ ap Ok (sym are)) line e
ending-behind false s line n lines ss e later h =
    let (others, is, are) = before-ok (finished s) (statements_from nothing n lines) ss h in
    let number : n ≡ n + 0 = omega arith in
    record {
      own = [];
      rest = lines;
      others = others;
      lines_are = refl;
      remark = last e;
      behind = subst (λ (m : ℕ). AreStatements m lines others) number (later nothing n others is);
      are = are;
    }

-- what a text of columns gives
record PieceEnds (s : StatementText) (r : Reading) (line columns : List ℕ) (t : Step) : Type 0 where
  ends : operands_go_on line columns ≡ false
  found : List OperandText
  found_is : AreRead s r (word columns) found
  gives : t ≡ ending (record s { operands = found }) line

record PieceGoes (s : StatementText) (r : Reading) (line columns : List ℕ) (t : Step) : Type 0 where
  goes : operands_go_on line columns ≡ true
  reading : Reading
  joins : (text : List ℕ) (os : List OperandText) → AreRead s reading text os → AreRead s r (word columns ++ text) os
  gives : t ≡ record { done = []; open_behind = operands s reading }

same_Ok : (a b : Step) → ◌≡◌ {A = Result Step LineFault} (Ok a) (Ok b) → a ≡ b
same_Ok a b e = cc

joins-both : (s : StatementText) (r q : Reading) (piece : List ℕ) → is_listing s.operation ≡ false → read_text r piece ≡ Some q
    → (text : List ℕ) (os : List OperandText) → AreRead s q text os → AreRead s r (piece ++ text) os
joins-both s r q piece plain is text os (inl (listing, same)) = absurd (cc (plain, listing))
joins-both s r q piece plain is text os (inr (no_listing, reads)) =
    inr (plain, ap (λ (o : Option Reading). option_and_then ended o) (read-both piece text r ∙ ap (λ (o : Option Reading). option_and_then (λ (q : Reading). read_text q text) o) is) ∙ reads)

-- the operands of a statement that is no listing
piece-judged : (goes : Bool) (s : StatementText) (r : Reading) (n : ℕ) (line columns : List ℕ) (t : Step) (o : Option Reading) → operands_go_on line columns ≡ goes
    → is_listing s.operation ≡ false → read_text r (word columns) ≡ o
    → option_map_or (λ (q : Reading). cond goes (Ok (record { done = []; open_behind = operands s q }))
    (option_map_or (λ (os : List OperandText). Ok (ending (record s { operands = os }) line)) (ended q) (Err (M4 n)))) o (Err (M4 n)) ≡ Ok t
    → PieceEnds s r line columns t ⊎ PieceGoes s r line columns t
piece-judged goes s r n line columns t None e plain is h = absurd (cc)
piece-judged true s r n line columns t (Some q) e plain is h =
    inr (record { goes = e; reading = q; joins = joins-both s r q (word columns) plain is; gives = sym (same_Ok _ t h) })
piece-judged false s r n line columns t (Some q) e plain is h = found (ended q) refl h where
  found : (a : Option (List OperandText)) → ended q ≡ a → option_map_or (λ (os : List OperandText). Ok (ending (record s { operands = os }) line)) a (Err (M4 n)) ≡ Ok t
      → PieceEnds s r line columns t ⊎ PieceGoes s r line columns t
  found None ends h = absurd (cc)
  found (Some os) ends h =
      inl (record { ends = e; found = os; found_is = inr (plain, ap (λ (o : Option Reading). option_and_then ended o) is ∙ ends); gives = sym (same_Ok _ t h) })

-- the operands of a statement that lays out a listing
piece-of-listing : (goes : Bool) (s : StatementText) (r : Reading) (line columns : List ℕ) (t : Step) → operands_go_on line columns ≡ goes → is_listing s.operation ≡ true
    → ◌≡◌ {A = Result Step LineFault} (cond goes (Ok (record { done = []; open_behind = operands s r })) (Ok (ending s line))) (Ok t)
    → PieceEnds s r line columns t ⊎ PieceGoes s r line columns t
piece-of-listing true s r line columns t e listing h =
    inr (record { goes = e; reading = r; joins = λ text os reads. still text os reads; gives = sym (same_Ok _ t h) }) where
      still : (text : List ℕ) (os : List OperandText) → AreRead s r text os → AreRead s r (word columns ++ text) os
      still text os (inl both) = inl both
      still text os (inr (plain, reads)) = absurd (cc (plain, listing))
piece-of-listing false s r line columns t e listing h =
    inl (record { ends = e; found = s.operands; found_is = inl (listing, refl); gives = sym (same_Ok _ t h) })

piece-ok : (listing : Bool) (s : StatementText) (r : Reading) (n : ℕ) (line columns : List ℕ) (t : Step) → is_listing s.operation ≡ listing
    → with_piece s r n line (word columns) (behind_word columns) ≡ Ok t → PieceEnds s r line columns t ⊎ PieceGoes s r line columns t
piece-ok true s r n line columns t e h =
    piece-of-listing (operands_go_on line columns) s r line columns t refl e (sym (if-true (is_listing s.operation) _ _ e) ∙ h)
piece-ok false s r n line columns t e h =
    piece-judged (operands_go_on line columns) s r n line columns t (read_text r (word columns)) refl e refl (sym (if-false (is_listing s.operation) _ _ e) ∙ h)

-- the operands in columns of a line, and the lines behind it
text-behind : (s : StatementText) (r : Reading) (n : ℕ) (line columns : List ℕ) (lines : List (List ℕ)) (ss : List StatementText) (t : Step) → Later lines
    → with_piece s r n line (word columns) (behind_word columns) ≡ Ok t → behind_step t (n + 1) lines ≡ Ok ss → OperandsBehind s r line columns (n + 1) lines ss
text-behind s r n line columns lines ss t later is h =
    elim (piece-ok (is_listing s.operation) s r n line columns t refl is) [
      | inl p ↦ (let b = ending-behind (goes_on line) (record s { operands = p.found }) line (n + 1) lines ss refl later (sym (ap (λ (x : Step). behind_step x (n + 1) lines) p.gives) ∙ h) in
          record {
            own = b.own;
            rest = b.rest;
            others = b.others;
            text = word columns;
            found = p.found;
            lines_are = b.lines_are;
            text_is = whole p.ends b.remark;
            behind = b.behind;
            found_is = p.found_is;
            are = b.are;
          })
      | inr p ↦ (let (others, gives, are) = before-ok [] (statements_from (operands s p.reading) (n + 1) lines) ss (sym (ap (λ (x : Step). behind_step x (n + 1) lines) p.gives) ∙ h) in
          later (operands s p.reading) (n + 1) ss (gives ∙ ap Ok (sym are)) line columns r p.goes p.joins)
    ]

-- ---- one more line

more-number : (n : ℕ) (own : List (List ℕ)) (line : List ℕ) → n + 1 + length own ≡ n + length (line ∷ own)
more-number n own line = omega arith

remark-line : (s : StatementText) (n : ℕ) (next : List ℕ) (more : List (List ℕ)) (ss : List StatementText) (t : Step) → Later more
    → read_line (remarks s) n next ≡ Ok t → behind_step t (n + 1) more ≡ Ok ss → Behind (remarks s) n (next ∷ more) ss
remark-line s n next more ss t later is h line goes =
    let (good, opens) = line-ok (nat_lt 80 (length next)) (has_other_byte next) (M1 n) (M2 n) (read_open (remarks s) n next) t is in
    let (blank, gives) = guard-ok (is_indented next) (Ok (ending s next)) (M3 n) t opens in
    let b = ending-behind (goes_on next) s next (n + 1) more ss refl later (ap (λ (x : Step). behind_step x (n + 1) more) (same_Ok _ t gives) ∙ h) in
    record {
      own = next ∷ b.own;
      rest = b.rest;
      others = b.others;
      lines_are = ap (λ (l : List (List ℕ)). next ∷ l) b.lines_are;
      remark = further goes good blank b.remark;
      behind = subst (λ (m : ℕ). AreStatements m b.rest b.others) (more-number n b.own next) b.behind;
      are = b.are;
    }

operand-line : (s : StatementText) (r : Reading) (n : ℕ) (next : List ℕ) (more : List (List ℕ)) (ss : List StatementText) (t : Step) → Later more
    → read_line (operands s r) n next ≡ Ok t → behind_step t (n + 1) more ≡ Ok ss → Behind (operands s r) n (next ∷ more) ss
operand-line s r n next more ss t later is h line columns r₀ goes joins =
    let (good, opens) = line-ok (nat_lt 80 (length next)) (has_other_byte next) (M1 n) (M2 n) (read_open (operands s r) n next) t is in
    let (here, gives) = guard-ok (continues_operands next) (with_piece s r n next (word (continued_columns next)) (behind_word (continued_columns next))) (M3 n) t opens in
    let b = text-behind s r n next (continued_columns next) more ss t later gives h in
    record {
      own = next ∷ b.own;
      rest = b.rest;
      others = b.others;
      text = word columns ++ b.text;
      found = b.found;
      lines_are = ap (λ (l : List (List ℕ)). next ∷ l) b.lines_are;
      text_is = joined goes good here b.text_is;
      behind = subst (λ (m : ℕ). AreStatements m b.rest b.others) (more-number n b.own next) b.behind;
      found_is = joins b.text b.found b.found_is;
      are = b.are;
    }

operands-found : (s : StatementText) (text : List ℕ) (os : List OperandText) → s.operands ≡ [] → AreRead s unread text os → AreOperands s.operation text os
operands-found s text os first (inl (listing, same)) = inl (listing, same ∙ first)
operands-found s text os first (inr (plain, reads)) = inr (plain, (operand-text-is-spelled text os).0 reads)

first-line : (c : Bool) (n : ℕ) (line : List ℕ) (more : List (List ℕ)) (ss : List StatementText) (t : Step) → is_ignored line ≡ c → is_line line ≡ true → Later more
    → cond c (Ok (record { done = []; open_behind = nothing })) (begin_statement n line) ≡ Ok t → behind_step t (n + 1) more ≡ Ok ss → AreStatements n (line ∷ more) ss
first-line true n line more ss t e good later is h =
    let (others, gives, are) = before-ok [] (statements_from nothing (n + 1) more) ss (ap (λ (x : Step). behind_step x (n + 1) more) (same_Ok _ t is) ∙ h) in
    ignored good e (later nothing (n + 1) ss (gives ∙ ap Ok (sym are)))
first-line false n line more ss t e good later is h =
    let begun : StatementText = statement_of n line [] in
    let b = text-behind begun unread n line (behind_operation line) more ss t later is h in
    let s : IsStatement n line b.own b.found = record {
      line_is = good;
      not_ignored = e;
      text = b.text;
      text_is = b.text_is;
      operands_are = operands-found begun b.text b.found refl b.found_is;
    } in
    subst (λ (l : List StatementText). AreStatements n (line ∷ more) l) (sym b.are)
    (subst (λ (l : List (List ℕ)). AreStatements n (line ∷ l) (finished (statement_of n line b.found) ++ b.others)) (sym b.lines_are) (statement s b.behind))

same_list : (a b : List StatementText) → ◌≡◌ {A = Read} (Ok a) (Ok b) → a ≡ b
same_list a b e = cc

no-lines : (n : ℕ) (ss : List StatementText) → ss ≡ [] → AreStatements n [] ss
no-lines n ss e = subst (λ (l : List StatementText). AreStatements n [] l) (sym e) none

-- lines that are read are statements
read-lines : (lines : List (List ℕ)) → Later lines
read-lines [] nothing n ss h = no-lines n ss (sym (same_list [] ss h))
read-lines [] (operands s r) n ss h = absurd (cc)
read-lines [] (remarks s) n ss h = absurd (cc)
read-lines (line ∷ more) nothing n ss h =
    let (t, is, behind) = then-ok (read_line nothing n line) (λ (t : Step). behind_step t (n + 1) more) ss h in
    let (good, opens) = line-ok (nat_lt 80 (length line)) (has_other_byte line) (M1 n) (M2 n) (read_open nothing n line) t is in
    first-line (is_ignored line) n line more ss t refl good (read-lines more) opens behind
read-lines (line ∷ more) (operands s r) n ss h =
    let (t, is, behind) = then-ok (read_line (operands s r) n line) (λ (t : Step). behind_step t (n + 1) more) ss h in
    operand-line s r n line more ss t (read-lines more) is behind
read-lines (line ∷ more) (remarks s) n ss h =
    let (t, is, behind) = then-ok (read_line (remarks s) n line) (λ (t : Step). behind_step t (n + 1) more) ss h in
    remark-line s n line more ss t (read-lines more) is behind

pub source-is-statements : SourceIsStatements
source-is-statements bytes ss = (read-lines (lines bytes) nothing 1 ss, lines-read 1 (lines bytes) ss)

-- Lines are read as steps just where they are spelled as these steps.
use Rattle.std.proofs.Common.{◌≡◌, ℕ, ◌+◌, List, [], ◌∷◌, ◌++◌, Bool, true, false, Result, Ok, Err, refl, ap, sym, subst, ◌∙◌, append_assoc}
use Rattle.std.specs.Str.Lines.{lines}
use Rattle.std.proofs.lemmas.List.{append-nil}
use Rattle.hd_lines.specs.Reading.{then}
use Rattle.hd_dbd.specs.Calls.{CallText}
use Rattle.hd_deck.specs.StepText.{StepText}
use Rattle.hd_deck.specs.Deck.{Statement, comment, select, call, argument, area_bytes, Reading, read_line, read_from, after, with_last, with_argument, with_bytes}
use Rattle.hd_deck.specs.declared.deck.DeckFault.{DeckFault}
use Rattle.hd_deck.specs.Spelling.{call_text, IsSpelled, blank_line, star_line, s_line, l_line, l_line_with_argument, c_line, d_line, h_line, Says, AreParts, no_parts, comment_in_call, argument_part, area_part, step_of, AreSteps, no_steps, comment_line, select_line, call_lines, StepsAreSpelled}
use Rattle.hd_deck.proofs.SpelledLines.{MayStand, line-read, line-spelled}

abbrev Read : Type 0
Read = Result (List StepText) DeckFault

-- what some lines have said
abbrev reading : ℕ → Bool → List StepText → Reading
reading pcb is_open steps = record { pcb = pcb; is_open = is_open; steps = steps }

-- a line that is read gives what follows it
line-gives : (pcbs n : ℕ) (r : Reading) (line : List ℕ) (more : List (List ℕ)) (s : Statement) → read_line pcbs n r.is_open line ≡ Ok s
    → read_from pcbs n r (line ∷ more) ≡ read_from pcbs (n + 1) (after s r) more
line-gives pcbs n r line more s is = ap (λ (t : Result Statement DeckFault). then t (λ (u : Statement). read_from pcbs (n + 1) (after u r) more)) is

-- the step behind the others is changed
last-changed : (change : StepText → StepText) (front : List StepText) (s : StepText) → with_last change (front ++ s ∷ []) ≡ front ++ change s ∷ []
last-changed change [] s = refl
last-changed change (x ∷ []) s = refl
last-changed change (x ∷ y ∷ front) s = ap (λ (ss : List StepText). x ∷ ss) (last-changed change (y ∷ front) s)

-- a step with further arguments and bytes
abbrev extended : StepText → List (List ℕ) → List ℕ → StepText
extended s ssas area = step_of s.pcb s.repeat (call_text s.call.function (s.call.ssas ++ ssas) (s.call.area ++ area))

step-with : (s : StepText) (ssas : List (List ℕ)) (area : List ℕ) → ssas ≡ s.call.ssas → area ≡ s.call.area
    → step_of s.pcb s.repeat (call_text s.call.function ssas area) ≡ s
step-with s ssas area e f =
    ap (λ (x : List (List ℕ)). step_of s.pcb s.repeat (call_text s.call.function x area)) e
    ∙ ap (λ (x : List ℕ). step_of s.pcb s.repeat (call_text s.call.function s.call.ssas x)) f

extended-none : (s : StepText) → extended s [] [] ≡ s
extended-none s = step-with s _ _ (append-nil s.call.ssas) (append-nil s.call.area)

extended-argument : (s : StepText) (ssa : List ℕ) (ssas : List (List ℕ)) (area : List ℕ) → extended (with_argument ssa s) ssas area ≡ extended s (ssa ∷ ssas) area
extended-argument s ssa ssas area =
    ap (λ (x : List (List ℕ)). step_of s.pcb s.repeat (call_text s.call.function x (s.call.area ++ area))) (append_assoc s.call.ssas (ssa ∷ []) ssas)

extended-bytes : (s : StepText) (bytes : List ℕ) (ssas : List (List ℕ)) (area : List ℕ) → extended (with_bytes bytes s) ssas area ≡ extended s ssas (bytes ++ area)
extended-bytes s bytes ssas area =
    ap (λ (x : List ℕ). step_of s.pcb s.repeat (call_text s.call.function (s.call.ssas ++ ssas) x)) (append_assoc s.call.area bytes area)

-- ---- what is spelled so is read so

-- the lines that belong to a call are read to their end
parts-read : (pcbs pcb : ℕ) (parts ssas : List (List ℕ)) (area : List ℕ) → AreParts parts ssas area
    → (n : ℕ) (front : List StepText) (s : StepText) (more : List (List ℕ)) (total : Read)
    → ((m : ℕ) → read_from pcbs m (reading pcb true (front ++ extended s ssas area ∷ [])) more ≡ total)
    → read_from pcbs n (reading pcb true (front ++ s ∷ [])) (parts ++ more) ≡ total
parts-read pcbs pcb _ _ _ no_parts n front s more total behind =
    ap (λ (t : StepText). read_from pcbs n (reading pcb true (front ++ t ∷ [])) more) (sym (extended-none s)) ∙ behind n
parts-read pcbs pcb _ _ _ (comment_in_call {line = line} {more = own} says others) n front s more total behind =
    line-gives pcbs n (reading pcb true (front ++ s ∷ [])) line (own ++ more) comment (line-read pcbs n true line comment says tt)
    ∙ parts-read pcbs pcb own _ _ others (n + 1) front s more total behind
parts-read pcbs pcb _ _ _ (argument_part {line = line} {ssa = ssa} {more = own} {ssas = ssas} {area = area} says others) n front s more total behind =
    line-gives pcbs n (reading pcb true (front ++ s ∷ [])) line (own ++ more) (argument ssa) (line-read pcbs n true line (argument ssa) says refl)
    ∙ ap (λ (ss : List StepText). read_from pcbs (n + 1) (reading pcb true ss) (own ++ more)) (last-changed (with_argument ssa) front s)
    ∙ parts-read pcbs pcb own ssas area others (n + 1) front (with_argument ssa s) more total
    (λ m. ap (λ (t : StepText). read_from pcbs m (reading pcb true (front ++ t ∷ [])) more) (extended-argument s ssa ssas area) ∙ behind m)
parts-read pcbs pcb _ _ _ (area_part {line = line} {bytes = bytes} {more = own} {ssas = ssas} {area = area} says others) n front s more total behind =
    line-gives pcbs n (reading pcb true (front ++ s ∷ [])) line (own ++ more) (area_bytes bytes) (line-read pcbs n true line (area_bytes bytes) says refl)
    ∙ ap (λ (ss : List StepText). read_from pcbs (n + 1) (reading pcb true ss) (own ++ more)) (last-changed (with_bytes bytes) front s)
    ∙ parts-read pcbs pcb own ssas area others (n + 1) front (with_bytes bytes s) more total
    (λ m. ap (λ (t : StepText). read_from pcbs m (reading pcb true (front ++ t ∷ [])) more) (extended-bytes s bytes ssas area) ∙ behind m)

-- lines that make steps are read as these
steps-read : (pcbs pcb : ℕ) (lines : List (List ℕ)) (steps : List StepText) → AreSteps pcbs pcb lines steps
    → (n : ℕ) (is_open : Bool) (done : List StepText) → read_from pcbs n (reading pcb is_open done) lines ≡ Ok (done ++ steps)
steps-read pcbs pcb _ _ no_steps n is_open done = ap Ok (sym (append-nil done))
steps-read pcbs pcb _ _ (comment_line {line = line} {more = more} {steps = steps} says others) n is_open done =
    line-gives pcbs n (reading pcb is_open done) line more comment (line-read pcbs n is_open line comment says tt)
    ∙ steps-read pcbs pcb more steps others (n + 1) is_open done
steps-read pcbs pcb _ _ (select_line {k = k} {line = line} {more = more} {steps = steps} says some known others) n is_open done =
    line-gives pcbs n (reading pcb is_open done) line more (select k) (line-read pcbs n is_open line (select k) says (some, known))
    ∙ steps-read pcbs k more steps others (n + 1) false done
steps-read pcbs pcb _ _
    (call_lines {k = k} {line = line} {function = function} {area = area} {first = first} {further = further} {parts = parts} {more = more} {steps = steps} says own others)
    n is_open done =
    let text : CallText = call_text function first [] in
    let made : StepText = step_of pcb k (call_text function (first ++ further) area) in
    line-gives pcbs n (reading pcb is_open done) line (parts ++ more) (call k text) (line-read pcbs n is_open line (call k text) says tt)
    ∙ parts-read pcbs pcb parts further area own (n + 1) done (step_of pcb k text) more (Ok (done ++ made ∷ steps))
    (λ m. steps-read pcbs pcb more steps others m true (done ++ made ∷ []) ∙ ap Ok (append_assoc done (made ∷ []) steps))

-- ---- what is read so is spelled so

-- behind lines that leave no call open, the others make further steps
record Outside (pcbs pcb : ℕ) (done : List StepText) (lines : List (List ℕ)) (steps : List StepText) : Type 0 where
  others : List StepText
  others_are : AreSteps pcbs pcb lines others
  are : steps ≡ done ++ others

-- behind lines that leave the call of a step open, some lines belong to it, and the others make further steps
record Inside (pcbs pcb : ℕ) (front : List StepText) (s : StepText) (lines : List (List ℕ)) (steps : List StepText) : Type 0 where
  parts : List (List ℕ)
  more : List (List ℕ)
  ssas : List (List ℕ)
  area : List ℕ
  others : List StepText
  lines_are : lines ≡ parts ++ more
  parts_are : AreParts parts ssas area
  others_are : AreSteps pcbs pcb more others
  are : steps ≡ front ++ extended s ssas area ∷ others

abbrev LaterOutside : ℕ → List (List ℕ) → Type 0
LaterOutside pcbs lines = (pcb n : ℕ) (done steps : List StepText) → read_from pcbs n (reading pcb false done) lines ≡ Ok steps → Outside pcbs pcb done lines steps

abbrev LaterInside : ℕ → List (List ℕ) → Type 0
LaterInside pcbs lines = (pcb n : ℕ) (front : List StepText) (s : StepText) (steps : List StepText) → read_from pcbs n (reading pcb true (front ++ s ∷ [])) lines ≡ Ok steps
    → Inside pcbs pcb front s lines steps

then-ok : (r : Result Statement DeckFault) (f : Statement → Read) (ss : List StepText) → then r f ≡ Ok ss → (s : Statement) × (r ≡ Ok s) × (f s ≡ Ok ss)
then-ok (Ok s) f ss h = (s, refl, h)
then-ok (Err e) f ss h = absurd (cc)

-- the area that a line hands over with its call
abbrev area_of : Statement → List ℕ
area_of comment = []
area_of (select k) = []
area_of (call k text) = text.area
area_of (argument ssa) = []
area_of (area_bytes bytes) = []

no-area : (line : List ℕ) (s : Statement) → IsSpelled line s → area_of s ≡ []
no-area line _ (blank_line e) = refl
no-area _ _ star_line = refl
no-area _ _ (s_line e) = refl
no-area line _ (l_line blanks e h) = refl
no-area _ _ (l_line_with_argument h e) = refl
no-area _ _ c_line = refl
no-area _ _ d_line = refl
no-area _ _ (h_line e) = refl

module _ (pcbs : ℕ) (line : List ℕ) (more : List (List ℕ)) (outside : LaterOutside pcbs more) (inside : LaterInside pcbs more) where
  -- a call line, the lines that belong to it, and the others
  call-made : (pcb n k : ℕ) (text : CallText) (done steps : List StepText) → Says line (call k text)
      → read_from pcbs n (reading pcb true (done ++ step_of pcb k text ∷ [])) more ≡ Ok steps → Outside pcbs pcb done (line ∷ more) steps
  call-made pcb n k text done steps says h =
      let i = inside pcb n done (step_of pcb k text) steps h in
      let area : text.area ≡ [] = no-area line (call k text) says.spelled in
      let bare : Says line (call k (call_text text.function text.ssas [])) =
      subst (λ (bytes : List ℕ). Says line (call k (call_text text.function text.ssas bytes))) area says in
      let made : List ℕ → StepText = λ area. step_of pcb k (call_text text.function (text.ssas ++ i.ssas) area) in
      let steps_are : AreSteps pcbs pcb (line ∷ (i.parts ++ i.more)) (made i.area ∷ i.others) = call_lines bare i.parts_are i.others_are in
      record {
        others = made i.area ∷ i.others;
        others_are = subst (λ (ls : List (List ℕ)). AreSteps pcbs pcb (line ∷ ls) (made i.area ∷ i.others)) (sym i.lines_are) steps_are;
        are = i.are ∙ ap (λ (bytes : List ℕ). done ++ made (bytes ++ i.area) ∷ i.others) area;
      }

  outside-line : (pcb n : ℕ) (done steps : List StepText) (s : Statement) → Says line s → MayStand pcbs false s
      → read_from pcbs n (after s (reading pcb false done)) more ≡ Ok steps → Outside pcbs pcb done (line ∷ more) steps
  outside-line pcb n done steps comment says may h =
      let o = outside pcb n done steps h in record { others = o.others; others_are = comment_line says o.others_are; are = o.are }
  outside-line pcb n done steps (select k) says may h =
      let o = outside k n done steps h in record { others = o.others; others_are = select_line says may.0 may.1 o.others_are; are = o.are }
  outside-line pcb n done steps (call k text) says may h = call-made pcb n k text done steps says h
  outside-line pcb n done steps (argument ssa) says may h = absurd (cc)
  outside-line pcb n done steps (area_bytes bytes) says may h = absurd (cc)

  -- no further line belongs to the call
  call-ends : (pcb : ℕ) (front : List StepText) (s : StepText) (steps : List StepText) → Outside pcbs pcb (front ++ s ∷ []) (line ∷ more) steps
      → Inside pcbs pcb front s (line ∷ more) steps
  call-ends pcb front s steps o = record {
    parts = [];
    more = line ∷ more;
    ssas = [];
    area = [];
    others = o.others;
    lines_are = refl;
    parts_are = no_parts;
    others_are = o.others_are;
    are = o.are ∙ append_assoc front (s ∷ []) o.others ∙ ap (λ (t : StepText). front ++ t ∷ o.others) (sym (extended-none s));
  }

  inside-line : (pcb n : ℕ) (front : List StepText) (s : StepText) (steps : List StepText) (t : Statement) → Says line t → MayStand pcbs true t
      → read_from pcbs n (after t (reading pcb true (front ++ s ∷ []))) more ≡ Ok steps → Inside pcbs pcb front s (line ∷ more) steps
  inside-line pcb n front s steps comment says may h =
      let i = inside pcb n front s steps h in
      record {
        parts = line ∷ i.parts;
        more = i.more;
        ssas = i.ssas;
        area = i.area;
        others = i.others;
        lines_are = ap (λ (ls : List (List ℕ)). line ∷ ls) i.lines_are;
        parts_are = comment_in_call says i.parts_are;
        others_are = i.others_are;
        are = i.are;
      }
  inside-line pcb n front s steps (select k) says may h =
      let o = outside k n (front ++ s ∷ []) steps h in
      call-ends pcb front s steps (record { others = o.others; others_are = select_line says may.0 may.1 o.others_are; are = o.are })
  inside-line pcb n front s steps (call k text) says may h = call-ends pcb front s steps (call-made pcb n k text (front ++ s ∷ []) steps says h)
  inside-line pcb n front s steps (argument ssa) says may h =
      let i = inside pcb n front (with_argument ssa s) steps
      (ap (λ (ss : List StepText). read_from pcbs n (reading pcb true ss) more) (sym (last-changed (with_argument ssa) front s)) ∙ h) in
      record {
        parts = line ∷ i.parts;
        more = i.more;
        ssas = ssa ∷ i.ssas;
        area = i.area;
        others = i.others;
        lines_are = ap (λ (ls : List (List ℕ)). line ∷ ls) i.lines_are;
        parts_are = argument_part says i.parts_are;
        others_are = i.others_are;
        are = i.are ∙ ap (λ (t : StepText). front ++ t ∷ i.others) (extended-argument s ssa i.ssas i.area);
      }
  inside-line pcb n front s steps (area_bytes bytes) says may h =
      let i = inside pcb n front (with_bytes bytes s) steps
      (ap (λ (ss : List StepText). read_from pcbs n (reading pcb true ss) more) (sym (last-changed (with_bytes bytes) front s)) ∙ h) in
      record {
        parts = line ∷ i.parts;
        more = i.more;
        ssas = i.ssas;
        area = bytes ++ i.area;
        others = i.others;
        lines_are = ap (λ (ls : List (List ℕ)). line ∷ ls) i.lines_are;
        parts_are = area_part says i.parts_are;
        others_are = i.others_are;
        are = i.are ∙ ap (λ (t : StepText). front ++ t ∷ i.others) (extended-bytes s bytes i.ssas i.area);
      }

same_steps : (a b : List StepText) → ◌≡◌ {A = Read} (Ok a) (Ok b) → b ≡ a
same_steps a b e = cc

no-more : (pcbs pcb : ℕ) (done steps : List StepText) → ◌≡◌ {A = Read} (Ok done) (Ok steps) → Outside pcbs pcb done [] steps
no-more pcbs pcb done steps h = record { others = []; others_are = no_steps; are = same_steps done steps h ∙ sym (append-nil done) }

-- lines that are read are spelled so
steps-spelled : (pcbs : ℕ) (lines : List (List ℕ)) → LaterOutside pcbs lines × LaterInside pcbs lines
steps-spelled pcbs [] = (
  λ pcb n done steps h. no-more pcbs pcb done steps h,
  λ pcb n front s steps h. record {
    parts = [];
    more = [];
    ssas = [];
    area = [];
    others = [];
    lines_are = refl;
    parts_are = no_parts;
    others_are = no_steps;
    are = same_steps (front ++ s ∷ []) steps h ∙ ap (λ (t : StepText). front ++ t ∷ []) (sym (extended-none s));
  },
)
steps-spelled pcbs (line ∷ more) =
    let (outside, inside) = steps-spelled pcbs more in (
      λ pcb n done steps h.
          (let (s, is, behind) = then-ok (read_line pcbs n false line) (λ (u : Statement). read_from pcbs (n + 1) (after u (reading pcb false done)) more) steps h in
          let (says, may) = line-spelled pcbs n false line s is in
          outside-line pcbs line more outside inside pcb (n + 1) done steps s says may behind),
      λ pcb n front s steps h.
          (let (t, is, behind) = then-ok (read_line pcbs n true line) (λ (u : Statement). read_from pcbs (n + 1) (after u (reading pcb true (front ++ s ∷ []))) more) steps h in
          let (says, may) = line-spelled pcbs n true line t is in
          inside-line pcbs line more outside inside pcb (n + 1) front s steps t says may behind),
    )

from-outside : (pcbs : ℕ) (lines : List (List ℕ)) (steps : List StepText) → Outside pcbs 1 [] lines steps → AreSteps pcbs 1 lines steps
from-outside pcbs lines steps o = subst (λ (ss : List StepText). AreSteps pcbs 1 lines ss) (sym o.are) o.others_are

pub steps-are-spelled : StepsAreSpelled
steps-are-spelled pcbs bytes steps = (
  λ h. from-outside pcbs (lines bytes) steps ((steps-spelled pcbs (lines bytes)).0 1 1 [] steps h),
  λ s. steps-read pcbs 1 (lines bytes) steps s 1 false [],
)

-- A deck, from one line to the next: how the steps that have their whole calls go with those that have the parts read so far.
use Rattle.std.proofs.Common.{◌≡◌, ℕ, ◌+◌, ◌<◌, ◌≤◌, List, [], ◌∷◌, ◌++◌, length, cond, Bool, true, false, All, Result, Ok, Err, arith, refl, ◌∙◌, ap, sym, subst, length-append}
use Rattle.std.proofs.lemmas.List.Elements.{All-push}
use Rattle.std.specs.Str.Lines.{lines}
use Rattle.hd_lines.specs.Reading.{then}
use Rattle.hd_dbd.specs.Calls.{CallText}
use Rattle.hd_deck.specs.StepText.{StepText, StepFits}
use Rattle.hd_deck.specs.Deck.{Statement, comment, select, call, argument, area_bytes, read_line, Reading, after, read_from, with_last, call_in}
use Rattle.hd_deck.specs.Deck.{with_argument as step_with_argument, with_bytes as step_with_bytes}
use Rattle.hd_deck.specs.CallLines.{with_parts, call_at, with_line, ends_call}
use Rattle.hd_deck.specs.Lines.{kind_of, kind_in, KindFits, followed_by}
use Rattle.hd_deck.specs.declared.deck.DeckFault.{DeckFault}
use Rattle.hd_deck.specs.declared.line.Statement.{Statement as Kind}
use Rattle.hd_deck.specs.declared.line.Statement.TheVariants as variants
use Rattle.hd_deck.proofs.Parts.{Acts, line-acts}

-- ---- the last step

with_last_same : (f g : StepText → StepText) → ((s : StepText) → f s ≡ g s) → (steps : List StepText) → with_last f steps ≡ with_last g steps
with_last_same f g same [] = refl
with_last_same f g same (s ∷ []) = ap (λ (u : StepText). u ∷ []) (same s)
with_last_same f g same (s ∷ t ∷ more) = ap (λ (us : List StepText). s ∷ us) (with_last_same f g same (t ∷ more))

with_last_kept : (f : StepText → StepText) → ((s : StepText) → f s ≡ s) → (steps : List StepText) → with_last f steps ≡ steps
with_last_kept f same [] = refl
with_last_kept f same (s ∷ []) = ap (λ (u : StepText). u ∷ []) (same s)
with_last_kept f same (s ∷ t ∷ more) = ap (λ (us : List StepText). s ∷ us) (with_last_kept f same (t ∷ more))

with_last_twice : (f g : StepText → StepText) (steps : List StepText) → with_last f (with_last g steps) ≡ with_last (λ s. f (g s)) steps
with_last_twice f g [] = refl
with_last_twice f g (s ∷ []) = refl
with_last_twice f g (s ∷ t ∷ []) = refl
with_last_twice f g (s ∷ t ∷ u ∷ more) = ap (λ (us : List StepText). s ∷ us) (with_last_twice f g (t ∷ u ∷ more))

with_last_push : (f : StepText → StepText) (steps : List StepText) (s : StepText) → with_last f (steps ++ s ∷ []) ≡ steps ++ f s ∷ []
with_last_push f [] s = refl
with_last_push f (t ∷ []) s = refl
with_last_push f (t ∷ u ∷ more) s = ap (λ (us : List StepText). t ∷ us) (with_last_push f (u ∷ more) s)

-- ---- steps with their whole calls

-- a step with the parts of its call that some lines have
abbrev whole : List (List ℕ) → StepText → StepText
whole ls s = record { pcb = s.pcb; repeat = s.repeat; call = with_parts ls s.call }

-- the steps, of which the last has all parts of its call
abbrev completed : Bool → List (List ℕ) → List StepText → List StepText
completed is_open ls steps = cond is_open (with_last (whole ls) steps) steps

-- a reading where the call that is open has already what the lines that follow say of it
abbrev pub ahead : List (List ℕ) → Reading → Reading
ahead ls r = record { pcb = r.pcb; is_open = r.is_open; steps = completed r.is_open ls r.steps }

module _ (line : List ℕ) (more : List (List ℕ)) where
  -- the parts are those of the lines that follow, and a line's own
  parts : (c : CallText) → ends_call line ≡ false → with_parts (line ∷ more) c ≡ with_parts more (with_line line c)
  parts c e = ap (λ (b : Bool). cond b c (with_parts more (with_line line c))) e

  no_parts : (c : CallText) → ends_call line ≡ true → with_parts (line ∷ more) c ≡ c
  no_parts c e = ap (λ (b : Bool). cond b c (with_parts more (with_line line c))) e

  closed : (is_open : Bool) (steps : List StepText) → ends_call line ≡ true → completed is_open (line ∷ more) steps ≡ steps
  closed true steps e = with_last_kept (whole (line ∷ more)) (λ s. ap (λ (c : CallText). record { pcb = s.pcb; repeat = s.repeat; call = c }) (no_parts s.call e)) steps
  closed false steps e = refl

  passed : (is_open : Bool) (steps : List StepText) → ends_call line ≡ false → ((c : CallText) → with_line line c ≡ c) → completed is_open (line ∷ more) steps ≡ completed is_open more steps
  passed true steps e same =
      with_last_same (whole (line ∷ more)) (whole more)
      (λ s. ap (λ (c : CallText). record { pcb = s.pcb; repeat = s.repeat; call = c }) (parts s.call e ∙ ap (with_parts more) (same s.call))) steps
  passed false steps e same = refl

  -- what a line adds to the call of the last step comes before what those behind it add
  added : (is_open : Bool) (change : StepText → StepText) (steps : List StepText) → is_open ≡ true → ((s : StepText) → whole (line ∷ more) s ≡ whole more (change s))
      → completed is_open (line ∷ more) steps ≡ completed is_open more (with_last change steps)
  added true change steps e same = with_last_same (whole (line ∷ more)) (λ s. whole more (change s)) same steps ∙ sym (with_last_twice (whole more) change steps)
  added false change steps e same = absurd (cc)

  -- a line is followed ahead as it is read
  ahead_next : (s : Statement) (r : Reading) → Acts s r.is_open line → followed_by (kind_of s) (line ∷ more) (ahead (line ∷ more) r) ≡ ahead more (after s r)
  ahead_next comment r acts =
      ap (λ (steps : List StepText). record { pcb = r.pcb; is_open = r.is_open; steps = steps }) (passed r.is_open r.steps acts.0 acts.1)
  ahead_next (select k) r acts = ap (λ (steps : List StepText). record { pcb = k; is_open = false; steps = steps }) (closed r.is_open r.steps acts)
  ahead_next (call k text) r acts =
      let s : CallText → StepText = λ c. record { pcb = r.pcb; repeat = k; call = c } in
      ap (λ (steps : List StepText). record { pcb = r.pcb; is_open = true; steps = steps })
      (ap (λ (steps : List StepText). steps ++ s (with_parts more (call_in line)) ∷ []) (closed r.is_open r.steps acts.0)
      ∙ ap (λ (c : CallText). r.steps ++ s (with_parts more c) ∷ []) (sym acts.1)
      ∙ sym (with_last_push (whole more) r.steps (s text)))
  ahead_next (argument ssa) r acts =
      ap (λ (steps : List StepText). record { pcb = r.pcb; is_open = r.is_open; steps = steps })
      (added r.is_open (step_with_argument ssa) r.steps acts.0
      (λ s. ap (λ (c : CallText). record { pcb = s.pcb; repeat = s.repeat; call = c }) (parts s.call acts.1 ∙ ap (with_parts more) (acts.2 s.call))))
  ahead_next (area_bytes bytes) r acts =
      ap (λ (steps : List StepText). record { pcb = r.pcb; is_open = r.is_open; steps = steps })
      (added r.is_open (step_with_bytes bytes) r.steps acts.0
      (λ s. ap (λ (c : CallText). record { pcb = s.pcb; repeat = s.repeat; call = c }) (parts s.call acts.1 ∙ ap (with_parts more) (acts.2 s.call))))

-- ---- from one line to the next

-- The lines from number n on, behind a reading, come to this; and what is read so far is that reading, ahead.
pub record IsAhead (pcbs n : ℕ) (ls : List (List ℕ)) (total : Result (List StepText) DeckFault) (r : Reading) : Type 0 where
  pub reading : Reading
  pub so_far : read_from pcbs n reading ls ≡ total
  pub is : r ≡ ahead ls reading

-- what was read as a kind of line
read_as : (t : Result Statement DeckFault) (k : Kind) → kind_in t ≡ Ok k → (s : Statement) × (t ≡ Ok s) × (k ≡ kind_of s)
read_as (Ok s) k e = (s, refl, cc)
read_as (Err f) k e = absurd (cc)

-- one more line is read
pub one_more_line : (pcbs n : ℕ) (r new : Reading) (ls : List (List ℕ)) (line : List ℕ) (more : List (List ℕ)) (k : Kind) (total : Result (List StepText) DeckFault)
    → ls ≡ line ∷ more → kind_in (read_line pcbs n r.is_open line) ≡ Ok k → new ≡ followed_by k ls r → IsAhead pcbs n ls total r → IsAhead pcbs (n + 1) more total new
one_more_line pcbs n r new ls line more k total split says next a =
    let rd : Reading = a.reading in
    let opened : r.is_open ≡ rd.is_open = ap (λ (q : Reading). q.is_open) a.is in
    let (s, read, kind) = read_as (read_line pcbs n rd.is_open line) k (ap (λ (o : Bool). kind_in (read_line pcbs n o line)) (sym opened) ∙ says) in
    record {
      reading = after s rd;
      so_far = sym (ap (read_from pcbs n rd) split ∙ ap (λ (t : Result Statement DeckFault). then t (λ (u : Statement). read_from pcbs (n + 1) (after u rd) more)) read) ∙ a.so_far;
      is = next ∙ ap (λ (k : Kind). followed_by k ls r) kind ∙ ap (followed_by (kind_of s) ls) a.is
          ∙ ap (λ (ls : List (List ℕ)). followed_by (kind_of s) ls (ahead ls rd)) split
          ∙ ahead_next line more s rd (line-acts pcbs n rd.is_open line s read);
    }

-- before the first line
pub none_ahead : (pcbs n : ℕ) (ls : List (List ℕ)) (r : Reading) → r.is_open ≡ false → IsAhead pcbs n ls (read_from pcbs n r ls) r
none_ahead pcbs n ls r e = record { reading = r; so_far = refl; is = sym (ap (λ (o : Bool). record { pcb = r.pcb; is_open = r.is_open; steps = cond o (with_last (whole ls) r.steps) r.steps }) e) }

-- a line with a fault
pub faulty_line : (pcbs n : ℕ) (r : Reading) (ls : List (List ℕ)) (line : List ℕ) (more : List (List ℕ)) (e : DeckFault) (total : Result (List StepText) DeckFault)
    → ls ≡ line ∷ more → read_line pcbs n r.is_open line ≡ Err e → IsAhead pcbs n ls total r → total ≡ Err e
faulty_line pcbs n r ls line more e total split says a =
    let rd : Reading = a.reading in
    let opened : r.is_open ≡ rd.is_open = ap (λ (q : Reading). q.is_open) a.is in
    sym a.so_far ∙ ap (read_from pcbs n rd) split
    ∙ ap (λ (t : Result Statement DeckFault). then t (λ (u : Statement). read_from pcbs (n + 1) (after u rd) more)) (ap (λ (o : Bool). read_line pcbs n o line) (sym opened) ∙ says)

-- an empty text has no lines
pub no_lines : (bytes : List ℕ) → length bytes ≡ 0 → lines bytes ≡ []
no_lines [] none = refl
no_lines (b ∷ bytes) none = absurd (omega arith)

-- all lines are read
pub all_read : (pcbs n : ℕ) (r : Reading) (ls : List (List ℕ)) (total : Result (List StepText) DeckFault) → ls ≡ [] → IsAhead pcbs n ls total r → total ≡ Ok r.steps
all_read pcbs n r ls total none a =
    sym a.so_far ∙ ap (read_from pcbs n a.reading) none
    ∙ ap Ok (sym (ap (λ (q : Reading). q.steps) a.is ∙ ap (λ (ls : List (List ℕ)). completed a.reading.is_open ls a.reading.steps) none ∙ last a.reading.is_open a.reading.steps))
  where
    last : (is_open : Bool) (steps : List StepText) → completed is_open [] steps ≡ steps
    last true steps = with_last_kept (whole []) (λ s. refl) steps
    last false steps = refl

-- ---- the steps after a line

-- the steps fit after a line that fits
pub after_fits : (pcbs : ℕ) (ls : List (List ℕ)) (r : Reading) (k : Kind) → 0 < r.pcb → r.pcb ≤ pcbs → All (StepFits pcbs) r.steps → KindFits pcbs k → All (StepFits pcbs) (followed_by k ls r).steps
after_fits pcbs ls r variants.Comment some known steps fit = steps
after_fits pcbs ls r (variants.Select k) some known steps fit = steps
after_fits pcbs ls r (variants.Call k) some known steps fit =
    All-push (StepFits pcbs) r.steps _ steps (record { some_pcb = some; known_pcb = known; some_call = fit.0; few_calls = fit.1 })
after_fits pcbs ls r variants.Argument some known steps fit = steps
after_fits pcbs ls r variants.Bytes some known steps fit = steps

-- the PCB of the calls that follow a line is one of the program's if the line fits
pub after_pcb_fits : (pcbs : ℕ) (ls : List (List ℕ)) (r : Reading) (k : Kind) → 0 < r.pcb → r.pcb ≤ pcbs → KindFits pcbs k → (0 < (followed_by k ls r).pcb) × ((followed_by k ls r).pcb ≤ pcbs)
after_pcb_fits pcbs ls r variants.Comment some known fit = (some, known)
after_pcb_fits pcbs ls r (variants.Select k) some known fit = fit
after_pcb_fits pcbs ls r (variants.Call k) some known fit = (some, known)
after_pcb_fits pcbs ls r variants.Argument some known fit = (some, known)
after_pcb_fits pcbs ls r variants.Bytes some known fit = (some, known)

-- a line adds one step at most
pub one_step : (ls : List (List ℕ)) (r : Reading) (k : Kind) → length (followed_by k ls r).steps ≤ length r.steps + 1
one_step ls r variants.Comment = omega arith
one_step ls r (variants.Select k) = omega arith
one_step ls r (variants.Call k) = omega (arith, length-append r.steps (record { pcb = r.pcb; repeat = k; call = call_at ls } ∷ []))
one_step ls r variants.Argument = omega arith
one_step ls r variants.Bytes = omega arith

-- A run of some calls, and then of others.
use Rattle.std.proofs.Common.{◌≡◌, ℕ, zero, suc, ◌+◌, ◌-◌, ◌<◌, ◌≤◌, take, drop, get_or, List, [], ◌∷◌, ◌++◌, length, replicate, arith, ap, sym, ◌∙◌, subst, Bool, true, false, Option, Some, None, refl}
use Rattle.std.specs.Io.KnownBytes.{Appends}
use Rattle.std.proofs.lemmas.List.{append_assoc, append-nil, replicate_more, take_more, length-append, take-append-le, take-append-drop}
use Rattle.std.proofs.Math.Seq.{take-append-add}
use Rattle.hd_dbd.specs.Logs.{Entry}
use Rattle.hd_calls.specs.Steps.{State}
use Rattle.hd_calls.specs.Runs.{last_state}
use Rattle.hd_session.specs.Opening.{SessionState}
use Rattle.hd_session.specs.Turns.{Turn, AreMade}
use Rattle.hd_session.proofs.Turns.{entries_count, stands_after, made_both}
use Rattle.hd_deck.specs.StepText.{StepText}
use Rattle.hd_deck.specs.Printing.{line_of, lines_from}
use Rattle.hd_deck.specs.Runs.{step_turns, turns_of, is_memory, memory_in, ArePlayed, AreMadeUntil, PlaysAll, PlaysUntil}
use Rattle.hd_deck.specs.declared.plays.Stop.{Stop}
use Rattle.hd_deck.specs.declared.plays.Stop.TheVariants as stop

-- ---- lists of calls

turns_push : (ss : List StepText) (s : StepText) → turns_of (ss ++ s ∷ []) ≡ turns_of ss ++ step_turns s
turns_push [] s = append-nil (step_turns s)
turns_push (r ∷ rs) s = ap (λ (ts : List Turn). step_turns r ++ ts) (turns_push rs s) ∙ sym (append_assoc (step_turns r) (turns_of rs) (step_turns s))

-- one more step
pub turns_of_more : (steps : List StepText) (i : ℕ) (s : StepText) → i < length steps → s ≡ get_or steps i s → turns_of (take (i + 1) steps) ≡ turns_of (take i steps) ++ step_turns s
turns_of_more steps i s below is =
    ap (λ (ss : List StepText). turns_of ss) (take_more steps i s below)
    ∙ turns_push (take i steps) (get_or steps i s)
    ∙ ap (λ (r : StepText). turns_of (take i steps) ++ step_turns r) (sym is)

turns_append : (xs ys : List StepText) → turns_of (xs ++ ys) ≡ turns_of xs ++ turns_of ys
turns_append [] ys = refl
turns_append (x ∷ xs) ys = ap (λ (ts : List Turn). step_turns x ++ ts) (turns_append xs ys) ∙ sym (append_assoc (step_turns x) (turns_of xs) (turns_of ys))

-- the calls of a deck begin with those of its first steps, the next one's among them
pub turns_of_parts : (steps : List StepText) (i : ℕ) (s : StepText) → i < length steps → s ≡ get_or steps i s
    → turns_of steps ≡ (turns_of (take i steps) ++ step_turns s) ++ turns_of (drop (i + 1) steps)
turns_of_parts steps i s below is =
    ap turns_of (sym (take-append-drop (i + 1) steps)) ∙ turns_append (take (i + 1) steps) (drop (i + 1) steps)
    ∙ ap (λ (ts : List Turn). ts ++ turns_of (drop (i + 1) steps)) (turns_of_more steps i s below is)

replicate_append : (j k : ℕ) (t : Turn) → replicate (j + k) t ≡ replicate j t ++ replicate k t
replicate_append zero k t = let e : 0 + k ≡ k = omega arith in ap (λ (n : ℕ). replicate n t) e
replicate_append (suc j) k t =
    let e : suc j + k ≡ suc (j + k) = omega arith in
    ap (λ (n : ℕ). replicate n t) e ∙ ap (λ (ts : List Turn). t ∷ ts) (replicate_append j k t)

-- calls of one kind begin with some of them, the next one among them
pub replicate_parts : (j k : ℕ) (t : Turn) → j < k → replicate k t ≡ (replicate j t ++ t ∷ []) ++ replicate (k - (j + 1)) t
replicate_parts j k t below =
    let e : k ≡ (j + 1) + (k - (j + 1)) = omega arith in
    ap (λ (n : ℕ). replicate n t) e ∙ replicate_append (j + 1) (k - (j + 1)) t
    ∙ ap (λ (ts : List Turn). ts ++ replicate (k - (j + 1)) t) (sym (replicate_more j t))

-- ---- entries

module _ {I : Type 0} where
  -- the lines of some entries and then others
  pub lines_from_append : (n : ℕ) (xs ys : List (Entry I)) → lines_from n (xs ++ ys) ≡ lines_from n xs ++ lines_from (n + length xs) ys
  lines_from_append n [] ys = let e : n ≡ n + 0 = omega arith in ap (λ (m : ℕ). lines_from m ys) e
  lines_from_append n (x ∷ xs) ys =
      let e : n + 1 + length xs ≡ n + length (x ∷ xs) = omega arith in
      ap (λ (t : List ℕ). line_of n x ++ t) (lines_from_append (n + 1) xs ys ∙ ap (λ (m : ℕ). lines_from (n + 1) xs ++ lines_from m ys) e)
      ∙ sym (append_assoc (line_of n x) (lines_from (n + 1) xs) (lines_from (n + length (x ∷ xs)) ys))

  memory_of_one : (x : Entry I) (xs ys : List (Entry I)) (b : Bool) → is_memory x.outcome ≡ b → memory_in (xs ++ ys) ≡ memory_in xs + memory_in ys
      → memory_in (x ∷ (xs ++ ys)) ≡ memory_in (x ∷ xs) + memory_in ys
  memory_of_one x xs ys true is more = rw is (let e : suc (memory_in (xs ++ ys)) ≡ suc (memory_in xs) + memory_in ys = omega (arith, more) in e)
  memory_of_one x xs ys false is more = rw is more

  -- how many of some calls and of others found no memory
  pub memory_in_append : (xs ys : List (Entry I)) → memory_in (xs ++ ys) ≡ memory_in xs + memory_in ys
  memory_in_append [] ys = let e : memory_in ys ≡ 0 + memory_in ys = omega arith in e
  memory_in_append (x ∷ xs) ys = memory_of_one x xs ys (is_memory x.outcome) refl (memory_in_append xs ys)

-- ---- calls in a session

-- known bytes grow by one text and then by another
pub appends_both : (a b c : Option (List ℕ)) (xs ys : List ℕ) → Appends a b xs → Appends b c ys → Appends a c (xs ++ ys)
appends_both None b c xs ys h k = tt
appends_both (Some u) None c xs ys h k = absurd h
appends_both (Some u) (Some v) None xs ys h k = absurd k
appends_both (Some u) (Some v) (Some w) xs ys h k = k ∙ ap (λ (t : List ℕ). t ++ ys) h ∙ append_assoc u xs ys

-- some calls were played and then others
pub played_both : (s m t : SessionState) (xs ys : List Turn) (number next : ℕ) (a b c : Option (List ℕ)) (j k : ℕ) → next ≡ number + length xs
    → PlaysAll s xs number a b j m → PlaysAll m ys next b c k t → PlaysAll s (xs ++ ys) number a c (j + k) t
played_both s m t xs ys number next a b c j k is f g = λ st sound stands.
    let p : ArePlayed s st xs number a b j m = f st sound stands in
    let middle : State = last_state s.database.types s.pcbs st p.entries in
    let q : ArePlayed m middle ys next b c k t = g middle (rw p.made.whole.sound sound) (stands_after s m st xs p.entries p.made) in
    let at : next ≡ number + length p.entries = is ∙ ap (λ (n : ℕ). number + n) (sym (entries_count s m st xs p.entries p.made)) in
    record {
      entries = p.entries ++ q.entries;
      made = made_both s m t st xs ys p.entries q.entries p.made q.made;
      printed = subst (λ (ts : List ℕ). Appends a c ts)
          (ap (λ (n : ℕ). lines_from number p.entries ++ lines_from n q.entries) at ∙ sym (lines_from_append number p.entries q.entries))
          (appends_both a b c (lines_from number p.entries) (lines_from next q.entries) p.printed q.printed);
      memory = ap (λ (n : ℕ). n + k) p.memory ∙ ap (λ (n : ℕ). memory_in p.entries + n) q.memory ∙ sym (memory_in_append p.entries q.entries);
    }

until : (s m t : SessionState) (st middle : State) (xs ys rest : List Turn) (es : List (Entry (List ℕ))) (e : Stop)
    → middle ≡ last_state s.database.types s.pcbs st es → AreMade s st xs es m → AreMadeUntil m middle ys e t → AreMadeUntil s st ((xs ++ ys) ++ rest) e t
until s m t st middle xs ys rest es stop.Device is p q = tt
until s m t st middle xs ys rest es stop.Write is p q =
    let few : length xs + q.count ≤ length (xs ++ ys) = omega (arith, q.some, length-append xs ys) in
    let first : take (length xs + q.count) ((xs ++ ys) ++ rest) ≡ xs ++ take q.count ys =
    take-append-le (length xs + q.count) (xs ++ ys) rest few ∙ take-append-add xs ys q.count in
    record {
      count = length xs + q.count;
      some = omega (arith, few, length-append (xs ++ ys) rest);
      entries = es ++ q.entries;
      made = subst (λ (ts : List Turn). AreMade s st ts (es ++ q.entries) t) (sym first)
          (made_both s m t st xs (take q.count ys) es q.entries p (subst (λ (r : State). AreMade m r (take q.count ys) q.entries t) is q.made));
    }

-- some calls were played, and then others until a stop
pub played_until : (s m t : SessionState) (xs ys rest : List Turn) (number : ℕ) (a b : Option (List ℕ)) (j : ℕ) (e : Stop)
    → PlaysAll s xs number a b j m → PlaysUntil m ys e t → PlaysUntil s ((xs ++ ys) ++ rest) e t
played_until s m t xs ys rest number a b j e f g = λ st sound stands.
    let p : ArePlayed s st xs number a b j m = f st sound stands in
    until s m t st (last_state s.database.types s.pcbs st p.entries) xs ys rest p.entries e refl p.made
    (g (last_state s.database.types s.pcbs st p.entries) (rw p.made.whole.sound sound) (stands_after s m st xs p.entries p.made))

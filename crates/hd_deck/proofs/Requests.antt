-- Calls of a deck with commits among them.
use Rattle.std.proofs.Common.{◌≡◌, ℕ, ◌+◌, zero, suc, take, cond, List, [], ◌∷◌, ◌++◌, length, IsTrue, Bool, true, false, Option, Some, None, ap, sym, ◌∙◌, subst, refl, arith, inl}
use Rattle.std.specs.Io.KnownBytes.{Appends}
use Rattle.std.proofs.KnownBytes.{Appends-trans}
use Rattle.std.proofs.Math.Seq.{take-nil}
use Rattle.std.proofs.lemmas.List.{append_assoc, append-nil}
use Rattle.hd_dbd.specs.Logs.{Entry}
use Rattle.hd_calls.specs.Steps.{State}
use Rattle.hd_calls.specs.Runs.{last_state}
use Rattle.hd_stores.specs.Stores.{Committed}
use Rattle.hd_session.specs.Opening.{SessionState}
use Rattle.hd_session.specs.Turns.{Turn, AreMade}
use Rattle.hd_session.specs.Requests.{Request, ask, commit, calls_in, committed_by, Lasts, AreDone, AreBroken, FailsIn}
use Rattle.hd_session.proofs.Turns.{stands_after, entries_count}
use Rattle.hd_session.proofs.Requests.{calls_append, done_both, done_none}
use Rattle.hd_deck.specs.Printing.{lines_from}
use Rattle.hd_deck.specs.Runs.{memory_in, ArePlayed, AreMadeInPart, PlaysAll, PlaysUntil}
use Rattle.hd_deck.specs.Commits.{is_due, commit_behind, requests_from, CommitsIfDue, AreRequestsPlayed, AreDoneUntil, AreBrokenInPart, PlaysRequests, DoesUntil}
use Rattle.hd_deck.specs.declared.plays.Stop.{Stop}
use Rattle.hd_deck.specs.declared.plays.Stop.TheVariants as stop
use Rattle.hd_deck.proofs.Turns.{lines_from_append, memory_in_append}
use Rattle.hd_deck.proofs.Calls.{appends_none}

-- ---- lists of requests

calls_behind : (b : Bool) (requests : List Request) → calls_in (cond b (commit ∷ []) [] ++ requests) ≡ calls_in requests
calls_behind true requests = refl
calls_behind false requests = refl

-- the calls among the requests of calls are these
pub calls_of_requests : (every : Option ℕ) (number : ℕ) (turns : List Turn) → calls_in (requests_from every number turns) ≡ turns
calls_of_requests every number [] = refl
calls_of_requests every number (turn ∷ turns) =
    ap (λ (ts : List Turn). turn ∷ ts) (calls_behind (is_due every number) (requests_from every (number + 1) turns) ∙ calls_of_requests every (number + 1) turns)

-- the requests of some calls and then of others
pub requests_append : (every : Option ℕ) (number : ℕ) (xs ys : List Turn)
    → requests_from every number (xs ++ ys) ≡ requests_from every number xs ++ requests_from every (number + length xs) ys
requests_append every number [] ys = let e : number ≡ number + 0 = omega arith in ap (λ (n : ℕ). requests_from every n ys) e
requests_append every number (x ∷ xs) ys =
    let e : number + 1 + length xs ≡ number + length (x ∷ xs) = omega arith in
    ap (λ (rs : List Request). ask x ∷ (commit_behind every number ++ rs))
    (requests_append every (number + 1) xs ys ∙ ap (λ (n : ℕ). requests_from every (number + 1) xs ++ requests_from every n ys) e)
    ∙ ap (λ (rs : List Request). ask x ∷ rs) (sym (append_assoc (commit_behind every number) (requests_from every (number + 1) xs) (requests_from every (number + length (x ∷ xs)) ys)))

-- those of one call
pub requests_of_one : (every : Option ℕ) (number : ℕ) (x : Turn) → requests_from every number (x ∷ []) ≡ (ask x ∷ []) ++ commit_behind every number
requests_of_one every number x = ap (λ (rs : List Request). ask x ∷ rs) (append-nil (commit_behind every number))

-- ---- in a session

-- nothing was asked for
pub requested_none : (s : SessionState) (number : ℕ) (a : Option (List ℕ)) → s.broken ≡ false → PlaysRequests s [] number a a 0 s
requested_none s number a whole = λ st sound stands. record { entries = []; done = done_none s st whole stands; printed = appends_none a; memory = refl }

-- none of the requests was carried out
pub none_asked : (s : SessionState) (requests : List Request) → s.broken ≡ false → DoesUntil s requests stop.Write s
none_asked s requests whole = λ st sound stands. record { first = []; rest = requests; parts = refl; entries = []; done = done_none s st whole stands }

-- one call makes nothing last
lasts_of_one : (turn : Turn) (entries : List (Entry (List ℕ))) (last : List ℕ) (old new : Committed) → new ≡ old → Lasts (committed_by (ask turn ∷ []) entries last) old new
lasts_of_one turn [] last old new same = same
lasts_of_one turn (e ∷ entries) last old new same = same

-- a call that was played, and what a crash leaves is the same
pub requested_call : (s t : SessionState) (turn : Turn) (number : ℕ) (a b : Option (List ℕ)) (lacking : ℕ) → t.volume.committed ≡ s.volume.committed
    → PlaysAll s (turn ∷ []) number a b lacking t → PlaysRequests s (ask turn ∷ []) number a b lacking t
requested_call s t turn number a b lacking same plays = λ st sound stands.
    let p : ArePlayed s st (turn ∷ []) number a b lacking t = plays st sound stands in
    record {
      entries = p.entries;
      done = record { made = p.made; lasts = lasts_of_one turn p.entries t.volume.image s.volume.committed t.volume.committed same };
      printed = p.printed;
      memory = p.memory;
    }

-- some requests were played and then others
pub requested_both : (s m t : SessionState) (xs ys : List Request) (number next : ℕ) (a b c : Option (List ℕ)) (j k : ℕ) → next ≡ number + length (calls_in xs)
    → PlaysRequests s xs number a b j m → PlaysRequests m ys next b c k t → PlaysRequests s (xs ++ ys) number a c (j + k) t
requested_both s m t xs ys number next a b c j k is f g = λ st sound stands.
    let p : AreRequestsPlayed s st xs number a b j m = f st sound stands in
    let middle : State = last_state s.database.types s.pcbs st p.entries in
    let q : AreRequestsPlayed m middle ys next b c k t = g middle (rw p.done.made.whole.sound sound) (stands_after s m st (calls_in xs) p.entries p.done.made) in
    let at : next ≡ number + length p.entries = is ∙ ap (λ (n : ℕ). number + n) (sym (entries_count s m st (calls_in xs) p.entries p.done.made)) in
    record {
      entries = p.entries ++ q.entries;
      done = done_both s m t st xs ys p.entries q.entries p.done q.done;
      printed = subst (λ (ts : List ℕ). Appends a c ts)
          (ap (λ (n : ℕ). lines_from number p.entries ++ lines_from n q.entries) at ∙ sym (lines_from_append number p.entries q.entries))
          (Appends-trans a b c (lines_from number p.entries) (lines_from next q.entries) p.printed q.printed);
      memory = ap (λ (n : ℕ). n + k) p.memory ∙ ap (λ (n : ℕ). memory_in p.entries + n) q.memory ∙ sym (memory_in_append p.entries q.entries);
    }

-- a commit behind them, where one is due
pub requested_then_due : (s m t : SessionState) (xs ys : List Request) (number : ℕ) (a b : Option (List ℕ)) (j : ℕ)
    → PlaysRequests s xs number a b j m → CommitsIfDue m ys t → PlaysRequests s (xs ++ ys) number a b j t
requested_then_due s m t xs ys number a b j f g = λ st sound stands.
    let p : AreRequestsPlayed s st xs number a b j m = f st sound stands in
    let middle : State = last_state s.database.types s.pcbs st p.entries in
    let q : AreDone m middle ys [] t = g middle (rw p.done.made.whole.sound sound) (stands_after s m st (calls_in xs) p.entries p.done.made) in
    record {
      entries = p.entries;
      done = subst (λ (es : List (Entry (List ℕ))). AreDone s st (xs ++ ys) es t) (append-nil p.entries) (done_both s m t st xs ys p.entries [] p.done q);
      printed = p.printed;
      memory = p.memory;
    }

-- ---- until a stop

-- some requests were played, and then an access failed
pub broken_behind : (s m t : SessionState) (xs rest : List Request) (number : ℕ) (a b : Option (List ℕ)) (j : ℕ)
    → PlaysRequests s xs number a b j m → FailsIn m t → DoesUntil s (xs ++ rest) stop.Device t
broken_behind s m t xs rest number a b j f fails = λ st sound stands.
    let p : AreRequestsPlayed s st xs number a b j m = f st sound stands in
    record { first = xs; rest = rest; parts = refl; broken = record { last = m; entries = p.entries; done = p.done; fails = fails } }

-- the first of some requests, and of more behind them
more_parts : (xs ys rest first last : List Request) → ys ≡ first ++ last → (xs ++ ys) ++ rest ≡ (xs ++ first) ++ (last ++ rest)
more_parts xs ys rest first last is =
    ap (λ (rs : List Request). (xs ++ rs) ++ rest) is ∙ append_assoc xs (first ++ last) rest ∙ ap (λ (rs : List Request). xs ++ rs) (append_assoc first last rest)
    ∙ sym (append_assoc xs first (last ++ rest))

-- a call of which so much was made
made_some : (s t : SessionState) (st : State) (turn : Turn) (rest : List Request) (count : ℕ) (entries : List (Entry (List ℕ))) → t.volume.committed ≡ s.volume.committed
    → AreMade s st (take count (turn ∷ [])) entries t → AreDoneUntil s st ((ask turn ∷ []) ++ rest) stop.Write t
made_some s t st turn rest zero entries same made =
    record { first = []; rest = ask turn ∷ rest; parts = refl; entries = entries; done = record { made = made; lasts = same } }
made_some s t st turn rest (suc count) entries same made = record {
  first = ask turn ∷ [];
  rest = rest;
  parts = refl;
  entries = entries;
  done = record {
    made = subst (λ (ts : List Turn). AreMade s st (turn ∷ ts) entries t) (take-nil count) made;
    lasts = lasts_of_one turn entries t.volume.image s.volume.committed t.volume.committed same;
  };
}

made_in_part : (s t : SessionState) (st : State) (turn : Turn) (rest : List Request) → t.volume.committed ≡ s.volume.committed
    → AreMadeInPart s st (turn ∷ []) t → AreDoneUntil s st ((ask turn ∷ []) ++ rest) stop.Write t
made_in_part s t st turn rest same p = made_some s t st turn rest p.count p.entries same p.made

-- a call that came to a stop
pub stopped_call : (s t : SessionState) (turn : Turn) (rest : List Request) (e : Stop) → s.broken ≡ false → t.volume.committed ≡ s.volume.committed
    → PlaysUntil s (turn ∷ []) e t → DoesUntil s ((ask turn ∷ []) ++ rest) e t
stopped_call s t turn rest stop.Device whole same until = λ st sound stands.
    record { first = []; rest = ask turn ∷ rest; parts = refl; broken = record { last = s; entries = []; done = done_none s st whole stands; fails = inl same } }
stopped_call s t turn rest stop.Write whole same until = λ st sound stands. made_in_part s t st turn rest same (until st sound stands)

until : (s m t : SessionState) (st middle : State) (xs ys rest : List Request) (es : List (Entry (List ℕ))) (e : Stop)
    → middle ≡ last_state s.database.types s.pcbs st es → AreDone s st xs es m → AreDoneUntil m middle ys e t → AreDoneUntil s st ((xs ++ ys) ++ rest) e t
until s m t st middle xs ys rest es stop.Device is p q = record {
  first = xs ++ q.first;
  rest = q.rest ++ rest;
  parts = more_parts xs ys rest q.first q.rest q.parts;
  broken = record {
    last = q.broken.last;
    entries = es ++ q.broken.entries;
    done = done_both s m q.broken.last st xs q.first es q.broken.entries p (subst (λ (r : State). AreDone m r q.first q.broken.entries q.broken.last) is q.broken.done);
    fails = q.broken.fails;
  };
}
until s m t st middle xs ys rest es stop.Write is p q = record {
  first = xs ++ q.first;
  rest = q.rest ++ rest;
  parts = more_parts xs ys rest q.first q.rest q.parts;
  entries = es ++ q.entries;
  done = done_both s m t st xs q.first es q.entries p (subst (λ (r : State). AreDone m r q.first q.entries t) is q.done);
}

-- some requests were played, and then others until a stop
pub requested_until : (s m t : SessionState) (xs ys rest : List Request) (number : ℕ) (a b : Option (List ℕ)) (j : ℕ) (e : Stop)
    → PlaysRequests s xs number a b j m → DoesUntil m ys e t → DoesUntil s ((xs ++ ys) ++ rest) e t
requested_until s m t xs ys rest number a b j e f g = λ st sound stands.
    let p : AreRequestsPlayed s st xs number a b j m = f st sound stands in
    until s m t st (last_state s.database.types s.pcbs st p.entries) xs ys rest p.entries e refl p.done
    (g (last_state s.database.types s.pcbs st p.entries) (rw p.done.made.whole.sound sound) (stands_after s m st (calls_in xs) p.entries p.done.made))

-- ---- calls of a deck

module _ (every : Option ℕ) (s m t : SessionState) (before more : List Turn) (number next : ℕ) (a b : Option (List ℕ)) (j : ℕ) (is : next ≡ number + length before)
    (f : PlaysRequests s (requests_from every number before) number a b j m) where
  parts : requests_from every number (before ++ more) ≡ requests_from every number before ++ requests_from every next more
  parts = requests_append every number before more ∙ ap (λ (n : ℕ). requests_from every number before ++ requests_from every n more) (sym is)

  -- some calls were played, and then others, with the commits among them
  pub calls_both : (c : Option (List ℕ)) (k : ℕ) → PlaysRequests m (requests_from every next more) next b c k t → PlaysRequests s (requests_from every number (before ++ more)) number a c (j + k) t
  calls_both c k g =
      subst (λ (rs : List Request). PlaysRequests s rs number a c (j + k) t) (sym parts)
      (requested_both s m t (requests_from every number before) (requests_from every next more) number next a b c j k
      (is ∙ ap (λ (ts : List Turn). number + length ts) (sym (calls_of_requests every number before))) f g)

  -- some calls were played, and then others until a stop
  pub calls_until : (rest : List Turn) (e : Stop) → DoesUntil m (requests_from every next more) e t → DoesUntil s (requests_from every number ((before ++ more) ++ rest)) e t
  calls_until rest e g =
      subst (λ (rs : List Request). DoesUntil s rs e t)
      (sym (requests_append every number (before ++ more) rest ∙ ap (λ (rs : List Request). rs ++ requests_from every (number + length (before ++ more)) rest) parts))
      (requested_until s m t (requests_from every number before) (requests_from every next more) (requests_from every (number + length (before ++ more)) rest) number a b j e f g)

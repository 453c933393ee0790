-- The requests that were taken from an input and served, one after another.
use Rattle.std.proofs.Common.{◌≡◌, ℕ, ◌+◌, ◌≤◌, List, [], ◌∷◌, ◌++◌, length, All, false, Option, Some, None, Result, Ok, Err, ap, ap₂, sym, ◌∙◌, subst, refl, arith, length-append}
use Rattle.std.specs.Prelude.{IfOk, IfErr, replicate}
use Rattle.std.specs.Io.KnownBytes.{Appends, Consumes}
use Rattle.std.proofs.KnownBytes.{Consumes-nil, Consumes-trans}
use Rattle.std.proofs.lemmas.List.{append-nil, length-replicate}
use Rattle.std.proofs.lemmas.List.Elements.{All-nil, All-push}
use Rattle.hd_session.specs.Opening.{SessionState}
use Rattle.hd_session.specs.Turns.{Turn}
use Rattle.hd_serve.specs.declared.call.Limits.{Limits}
use Rattle.hd_serve.specs.declared.fault.FrameFault.{FrameFault}
use Rattle.hd_serve.specs.declared.fault.FrameFault.TheVariants.{Read}
use Rattle.hd_serve.specs.Frames.{frame_bytes, request_bytes, RequestFits, IsWrong}
use Rattle.hd_serve.specs.declared.answered_calls.Count.{Count}
use Rattle.hd_serve.specs.declared.desk.Ending.{Ending}
use Rattle.hd_serve.specs.declared.desk.Stop.{Stop}
use Rattle.hd_serve.specs.declared.desk.Stop.TheVariants as stop
use Rattle.hd_session.specs.Requests.{Request, ask, make, foretell, commit, calls_in}
use Rattle.hd_serve.specs.Requests.{framed, frames_of}
use Rattle.hd_serve.specs.Serves.{AreAsked, EndsBy, Ends, GoesWrong, GoesOn, ServesAll, IsServedNext, IsDoneNext, StopsNext, IsServedToTheEnd, IsDoneInPart, IsServedInPart, ServesUntil}
use Rattle.hd_serve.proofs.OneRequest.{served_none, done_nothing}
use Rattle.hd_session.proofs.Requests.{calls_append}
use Rattle.hd_serve.proofs.MoreRequests.{frames_append, served_both, served_then_done, served_then_broken, served_behind}

-- ---- what the input was

module _ (limits : Limits) (requests : List Request) (right : All (λ r. RequestFits limits (framed r)) requests) where
  -- what is so of the rest is so of what is behind the requests
  asked : (a b : Option (List ℕ)) (Behind : List ℕ → Type 0) → Consumes a b (frames_of requests) → ((v : List ℕ) → b ≡ Some v → Behind v) → AreAsked limits a requests Behind
  asked None b Behind taken behind = record { right = right; spelled = tt }
  asked (Some u) None Behind taken behind = absurd taken
  asked (Some u) (Some v) Behind taken behind = record { right = right; spelled = (v, taken, behind v refl) }

  -- up to the end of the session
  pub asked_all : (e : Ending) (a b after : Option (List ℕ)) → Consumes a b (frames_of requests) → EndsBy e b after → AreAsked limits a requests (Ends e after)
  asked_all e a b after taken ends = asked a b (Ends e after) taken (λ v is. subst (λ (o : Option (List ℕ)). EndsBy e o after) is ends)

  -- with a wrong frame behind
  pub asked_wrong : (a b : Option (List ℕ)) (e : FrameFault) → Consumes a b (frames_of requests) → IsWrong limits b e → AreAsked limits a requests (GoesWrong limits e)
  asked_wrong a b e taken wrong = asked a b (GoesWrong limits e) taken (λ v is. subst (λ (o : Option (List ℕ)). IsWrong limits o e) is wrong)

  -- with whatever behind
  pub asked_on : (a b : Option (List ℕ)) → Consumes a b (frames_of requests) → AreAsked limits a requests GoesOn
  asked_on a b taken = asked a b GoesOn taken (λ v is. tt)

-- ---- from request to request

-- So many calls were among the requests that were taken from the input, and all of them were served.
pub record AreServedSoFar (limits : Limits) (s : SessionState) (input left old new : Option (List ℕ)) (calls lacking : ℕ) (t : SessionState) : Type 0 where
  pub requests : List Request
  pub right : All (λ r. RequestFits limits (framed r)) requests
  pub taken : Consumes input left (frames_of requests)
  pub count : calls ≡ length (calls_in requests)
  pub serves : ServesAll s requests [] old new lacking t

pub none_so_far : (limits : Limits) (s : SessionState) (input out : Option (List ℕ)) → s.broken ≡ false → AreServedSoFar limits s input input out out 0 0 s
none_so_far limits s input out whole = record {
  requests = [];
  right = All-nil (λ r. RequestFits limits (framed r));
  taken = Consumes-nil input;
  count = refl;
  serves = served_none s out whole;
}

taken_more : (requests : List Request) (r : Request) (a b c : Option (List ℕ)) → Consumes a b (frames_of requests) → Consumes b c (frame_bytes (request_bytes (framed r)))
    → Consumes a c (frames_of (requests ++ r ∷ []))
taken_more requests r a b c f g =
    let frame : List ℕ = frame_bytes (request_bytes (framed r)) in
    subst (λ (bytes : List ℕ). Consumes a c bytes) (ap (λ (bytes : List ℕ). frames_of requests ++ bytes) (sym (append-nil frame)) ∙ sym (frames_append requests (r ∷ [])))
    (Consumes-trans a b c (frames_of requests) frame f g)

-- one right request is 255 calls at most
pub calls_few : (limits : Limits) (r : Request) (n : ℕ) → RequestFits limits (framed r) → n ≡ length (calls_in (r ∷ [])) → n ≤ 255
calls_few limits (ask turn) n fits is = omega (arith, is)
calls_few limits (make turn k) n fits is = omega (arith, is, fits.1, length-append (replicate k turn) [], length-replicate k turn)
calls_few limits (foretell turn k) n fits is = omega (arith, is)
calls_few limits commit n fits is = omega (arith, is)

-- one request more has its calls
count_more : (requests : List Request) (r : Request) (calls n : ℕ) → calls ≡ length (calls_in requests) → n ≡ length (calls_in (r ∷ [])) → calls + n ≡ length (calls_in (requests ++ r ∷ []))
count_more requests r calls n f g =
    ap₂ (λ (x y : ℕ). x + y) f g ∙ sym (length-append (calls_in requests) (calls_in (r ∷ []))) ∙ ap (λ (ts : List Turn). length ts) (sym (calls_append requests (r ∷ [])))

module _ (limits : Limits) (s m t : SessionState) (input left old mid new : Option (List ℕ)) (calls lacking : ℕ) (so_far : AreServedSoFar limits s input left old mid calls lacking m) where
  -- one request more
  pub one_more : (after : Option (List ℕ)) (n k : ℕ) → IsServedNext limits m left after mid new n k t → AreServedSoFar limits s input after old new (calls + n) (lacking + k) t
  one_more after n k next = record {
    requests = so_far.requests ++ next.request ∷ [];
    right = All-push (λ r. RequestFits limits (framed r)) so_far.requests next.request so_far.right next.right;
    taken = taken_more so_far.requests next.request input left after so_far.taken next.taken;
    count = count_more so_far.requests next.request calls n so_far.count next.served.count;
    serves = served_both s m t so_far.requests [] old mid lacking so_far.serves (next.request ∷ []) new k next.served.serves;
  }

  -- the session ends
  pub to_the_end : (e : Ending) (after : Option (List ℕ)) → EndsBy e left after → IsServedToTheEnd limits s e input after [] old mid calls lacking m
  to_the_end e after ends =
      record { requests = so_far.requests; asked = asked_all limits so_far.requests so_far.right e input left after so_far.taken ends; count = so_far.count; serves = so_far.serves }

  -- a wrong frame comes
  pub wrong_next : (e : FrameFault) → IsWrong limits left e → IsServedInPart limits s input [] old mid e m
  wrong_next e wrong =
      record { requests = so_far.requests; asked = asked_wrong limits so_far.requests so_far.right input left e so_far.taken wrong; lacking = lacking; serves = so_far.serves }

  done_next : IsDoneNext limits m left t → IsDoneInPart limits s input t
  done_next next = record {
    requests = so_far.requests ++ next.request ∷ [];
    asked = asked_on limits (so_far.requests ++ next.request ∷ []) (All-push (λ r. RequestFits limits (framed r)) so_far.requests next.request so_far.right next.right) input next.after
        (taken_more so_far.requests next.request input left next.after so_far.taken next.taken);
    does = served_then_done s m t so_far.requests [] old mid lacking so_far.serves (next.request ∷ []) next.does;
  }

  -- requests end at a stop
  pub until_stop : (e : Stop) → StopsNext limits m left mid new e t → ServesUntil limits s input [] old new e t
  until_stop stop.Device stops = record {
    requests = so_far.requests;
    asked = asked_on limits so_far.requests so_far.right input left so_far.taken;
    breaks = served_then_broken s m t so_far.requests [] old mid lacking so_far.serves stops;
  }
  until_stop stop.Write stops = done_next stops
  until_stop (stop.Frame e) stops =
      subst (λ (r : SessionState). IsServedInPart limits s input [] old new e r) (sym stops.1)
      (subst (λ (o : Option (List ℕ)). IsServedInPart limits s input [] old o e m) (sym stops.2) (wrong_next e stops.0))

  -- an input that goes on without an end can't be read
  pub without_end : ServesUntil limits s input [] old mid (stop.Frame Read) m
  without_end = wrong_next Read (λ other. absurd (other refl))

-- ---- behind the first frame

module _ (limits : Limits) (s t : SessionState) (input after : Option (List ℕ)) (head : List ℕ) (old mid new : Option (List ℕ)) (first : Appends old mid head) where
  end_behind : (e : Ending) (calls lacking : ℕ) → IsServedToTheEnd limits s e input after [] mid new calls lacking t → IsServedToTheEnd limits s e input after head old new calls lacking t
  end_behind e calls lacking p = record { requests = p.requests; asked = p.asked; count = p.count; serves = served_behind s t p.requests head old mid new lacking first p.serves }

  until_behind : (e : Stop) → ServesUntil limits s input [] mid new e t → ServesUntil limits s input head old new e t
  until_behind stop.Device p = p
  until_behind stop.Write p = p
  until_behind (stop.Frame e) p = record { requests = p.requests; asked = p.asked; lacking = p.lacking; serves = served_behind s t p.requests head old mid new p.lacking first p.serves }

  -- the same of a result
  pub ends_behind : (r : Result (Ending × Count) Stop) → IfOk r (λ n. IsServedToTheEnd limits s n.0 input after [] mid new n.1.calls n.1.memory t)
      → IfOk r (λ n. IsServedToTheEnd limits s n.0 input after head old new n.1.calls n.1.memory t)
  ends_behind (Ok n) p = end_behind n.0 n.1.calls n.1.memory p
  ends_behind (Err e) p = tt

  pub untils_behind : (r : Result (Ending × Count) Stop) → IfErr r (λ e. ServesUntil limits s input [] mid new e t) → IfErr r (λ e. ServesUntil limits s input head old new e t)
  untils_behind (Ok n) p = tt
  untils_behind (Err e) p = until_behind e p

-- the first frame was not written
pub none_done : (limits : Limits) (s : SessionState) (input : Option (List ℕ)) → s.broken ≡ false → IsDoneInPart limits s input s
none_done limits s input whole = record {
  requests = [];
  asked = asked_on limits [] (All-nil (λ r. RequestFits limits (framed r))) input input (Consumes-nil input);
  does = done_nothing s whole;
}

-- In every run each hold goes back to the call that made it, and no update is lost.
use Rattle.std.proofs.Common.{◌≡◌, ℕ, zero, suc, ◌-◌, ◌<◌, ◌≤◌, List, [], ◌∷◌, ◌++◌, length, map, true, false, arith, ap, sym, ◌∙◌, subst, Option, Some, None, refl, inl, inr, ◌⊎◌}
use Rattle.std.specs.Prelude.{filter, slice_index, slice_index_or, slice_set}
use Rattle.std.specs.Option.{option_map_or, IsSomeAnd}
use Rattle.std.specs.List.{AllByRecursion}
use Rattle.std.proofs.lemmas.Bool.{and_parts, and_from, cases_eq}
use Rattle.std.proofs.lemmas.List.{get_or-set_other, get_or-set_same, get_or-map, length-map, length-set, append_assoc, append-nil}
use Rattle.hd_dbd.specs.Types.{SegmentType, View}
use Rattle.hd_dbd.specs.Segment.{Segment}
use Rattle.hd_dbd.specs.Positions.{Position, at_start}
use Rattle.hd_dbd.specs.Calls.{Reply}
use Rattle.hd_dbd.specs.Logs.{Outcome, replied, area, full, memory, Entry}
use Rattle.hd_calls.specs.Gets.{bytes_of}
use Rattle.hd_calls.specs.Moves.{Change, unchanged, rows_after, position_after}
use Rattle.hd_calls.specs.Steps.{Effect, answered, wrong_area, State, position_at, step}
use Rattle.hd_calls.specs.Functions.{function_of}
use Rattle.hd_calls.specs.Runs.{view_of, effect_in, MayComeTo, change_made, state_after_outcome, IsRun}
use Rattle.hd_calls.specs.Tags.{TaggedState, tagged_at_start, Moment, moment_of, moments, change_at, tagged_after, tags_at, tags_after, unused_after, numbers_from}
use Rattle.hd_calls.specs.NoLostUpdate.{answer_in, answer_at, is_blank, is_done, is_update_form, is_update, touches, share, tags_touched, tags_held, held_bytes, excepts, UpdatesHeld, StandsSince, GoesBack, opened, NoLostUpdate}
use Rattle.hd_calls.proofs.Fair.{IsHeld, IsFairAnswer, IsFair, all_append}
use Rattle.hd_calls.proofs.FairCalls.{call_fair}
use Rattle.hd_calls.proofs.Moving.{at_most_once, below_end, length-numbers}
use Rattle.hd_calls.proofs.Held.{IsTagged, still_tagged, StaysHeld, others_stay}

-- all positions as a change moves them, and the caller's own
abbrev all_moved : List SegmentType → State → ℕ → Change → Position → List Position
all_moved types st number change own = slice_set (map (λ q. position_after types st.rows change q) st.positions) (number - 1) own

-- the tagged state behind an effect with an outcome
abbrev after : List SegmentType → TaggedState → ℕ → Effect → Outcome → TaggedState
after types s number eff o = record {
  state = state_after_outcome types s.state number eff o;
  tags = tags_after (change_made eff o) s.unused s.tags;
  unused = unused_after (change_made eff o) s.unused;
}

held_at_start : (views : List View) (i : ℕ) → (slice_index_or (map (λ _. at_start) views) i at_start).held ≡ []
held_at_start [] i = refl
held_at_start (v ∷ vs) zero = refl
held_at_start (v ∷ vs) (suc i) = held_at_start vs i

module _ {Image : Type 0} (types : List SegmentType) (pcbs : List View) where
  -- what a PCB holds goes back to a hold among the moments so far
  abbrev HasHold : List (Moment Image) → TaggedState → ℕ → Type 0
  HasHold h s q = (first : List (Moment Image)) × (m : Moment Image) × (between : List (Moment Image)) × (h ≡ first ++ m ∷ between) × StandsSince types pcbs s q m between

  -- In a state after some moments each PCB that holds goes back to its hold.
  pub record IsTraced (h : List (Moment Image)) (s : TaggedState) : Type 0 where
    pub tags : IsTagged s
    pub places : length s.state.positions ≡ length pcbs
    pub within : (q : ℕ) → 0 < q → q ≤ length pcbs → AllByRecursion (λ i. i < length s.state.rows) (position_at s.state q).held
    pub stands : (q : ℕ) → 0 < q → q ≤ length pcbs → ((position_at s.state q).held ≡ []) ⊎ HasHold h s q

  -- a hold stands on through one more moment
  extended : (h : List (Moment Image)) (s next : TaggedState) (q : ℕ) (b : Moment Image) → HasHold h s q → (b.entry.pcb ≡ q → answer_at b ≡ None)
      → tags_held next q ≡ tags_held s q → held_bytes next q ≡ held_bytes s q → share (tags_touched b) (tags_held s q) ≡ false → HasHold (h ++ b ∷ []) next q
  extended h s next q b hold own rows bytes apart =
      let first : List (Moment Image) = hold.0 in
      let m : Moment Image = hold.1 in
      let between : List (Moment Image) = hold.2 in
      let stands : StandsSince types pcbs s q m between = hold.4 in (
        first,
        m,
        between ++ b ∷ [],
        ap (λ (h : List (Moment Image)). h ++ b ∷ []) hold.3 ∙ append_assoc first (m ∷ between) (b ∷ []),
        record {
          holds = stands.holds;
          same_pcb = stands.same_pcb;
          own_refused = all_append (λ b. b.entry.pcb ≡ q → answer_at b ≡ None) between (b ∷ []) stands.own_refused (own, tt);
          others_apart = all_append (λ b. share (tags_touched b) (tags_held (tagged_after types pcbs m) q) ≡ false) between (b ∷ []) stands.others_apart
              (subst (λ (ts : List ℕ). share (tags_touched b) ts ≡ false) stands.same_rows apart, tt);
          same_rows = rows ∙ stands.same_rows;
          same_bytes = ap (λ (bs : List ℕ). Some bs) bytes ∙ stands.same_bytes;
        },
      )

  module _ (h : List (Moment Image)) (s : TaggedState) (e : Entry Image) (traced : IsTraced h s) (some : 0 < e.pcb) (there : e.pcb ≤ length pcbs) where
    abbrev b : Moment Image
    b = moment_of types pcbs s e

    fair : IsFair (function_of e.call.function) types s.state.rows (position_at s.state e.pcb).held (λ i. excepts types e.call s.state.rows i) (effect_in types pcbs s.state e)
    fair = by_pcb (view_of pcbs e.pcb)
      where
        by_pcb : (o : Option View) → IsFair (function_of e.call.function) types s.state.rows (position_at s.state e.pcb).held (λ i. excepts types e.call s.state.rows i)
            (option_map_or (λ pcb. step types pcb s.state e.pcb e.call) o wrong_area)
        by_pcb None = tt
        by_pcb (Some pcb) = call_fair (record { types = types; pcb = pcb }) s.state.rows (position_at s.state e.pcb) e.call

    -- what was refused leaves all as it was
    refused_traced : (eff : Effect) (o : Outcome) → effect_in types pcbs s.state e ≡ eff → e.outcome ≡ o → answer_in o ≡ None → change_made eff o ≡ unchanged
        → state_after_outcome types s.state e.pcb eff o ≡ s.state → IsTraced (h ++ b ∷ []) (after types s e.pcb eff o)
    refused_traced eff o eff_is o_is none change state =
        subst (λ (t : TaggedState). IsTraced (h ++ b ∷ []) t) (sym next) (record {
          tags = traced.tags;
          places = traced.places;
          within = traced.within;
          stands = λ q low high. by_hold q (traced.stands q low high) (others_stay types s unchanged s.state.positions (position_at s.state q) traced.tags tt (traced.within q low high));
        })
      where
        next : after types s e.pcb eff o ≡ s
        next = ap (λ (st : State). record { state = st; tags = tags_after (change_made eff o) s.unused s.tags; unused = unused_after (change_made eff o) s.unused }) state
            ∙ ap (λ (c : Change). record { state = s.state; tags = tags_after c s.unused s.tags; unused = unused_after c s.unused }) change

        touched : change_at b ≡ unchanged
        touched = ap (λ (eff : Effect). change_made eff e.outcome) eff_is ∙ ap (λ (o : Outcome). change_made eff o) o_is ∙ change

        by_hold : (q : ℕ) → ((position_at s.state q).held ≡ []) ⊎ HasHold h s q
            → ((position_at s.state q).held ≡ []) ⊎ StaysHeld s unchanged s.state.positions (position_at s.state q).held (position_at s.state q).held
            → ((position_at s.state q).held ≡ []) ⊎ HasHold (h ++ b ∷ []) s q
        by_hold q (inl nothing) stays = inl nothing
        by_hold q (inr hold) (inl nothing) = inl nothing
        by_hold q (inr hold) (inr stays) =
            inr (extended h s s q b hold (λ _. ap answer_in o_is ∙ none) refl refl
            (ap (λ (c : Change). share (tags_at s (filter (λ i. touches c i) (numbers_from 0 (length s.state.rows)))) (tags_held s q)) touched ∙ stays.apart))

    -- what was answered moves the others, and leaves its own PCB with what it holds
    answered_traced : (reply : Reply) (change : Change) (own : Position) (r : Reply) → effect_in types pcbs s.state e ≡ answered reply change own → e.outcome ≡ replied r → r ≡ reply
        → IsFairAnswer (function_of e.call.function) types s.state.rows (position_at s.state e.pcb).held (λ i. excepts types e.call s.state.rows i) reply change own
        → IsTraced (h ++ b ∷ []) (after types s e.pcb (answered reply change own) (replied r))
    answered_traced reply change own r eff_is o_is same fair = record {
      tags = still_tagged s change (all_moved types s.state e.pcb change own) fair.forward traced.tags;
      places = length-set (map (λ q. position_after types s.state.rows change q) s.state.positions) (e.pcb - 1) own ∙ length-map s.state.positions (λ q. position_after types s.state.rows change q) ∙ traced.places;
      within = λ q low high. elim (cases_eq q e.pcb) [
        | inl self ↦ subst (λ (p : Position). AllByRecursion (λ i. i < length (rows_after change s.state.rows)) p.held) (sym (position_self q self)) (own_within fair.holds)
        | inr other ↦ subst (λ (p : Position). AllByRecursion (λ i. i < length (rows_after change s.state.rows)) p.held) (sym (position_other q low high other))
            (other_within q (others_stay types s change (all_moved types s.state e.pcb change own) (position_at s.state q) traced.tags fair.forward (traced.within q low high)))
      ];
      stands = λ q low high. elim (cases_eq q e.pcb) [
        | inl self ↦ own_stands q self fair.holds
        | inr other ↦ other_stands q other (position_other q low high other) (traced.stands q low high)
            (others_stay types s change (all_moved types s.state e.pcb change own) (position_at s.state q) traced.tags fair.forward (traced.within q low high))
      ];
    }
      where
        position_self : (q : ℕ) → q ≡ e.pcb → position_at (after types s e.pcb (answered reply change own) (replied r)).state q ≡ own
        position_self q self =
            ap (λ (n : ℕ). slice_index_or (all_moved types s.state e.pcb change own) (n - 1) at_start) self
            ∙ get_or-set_same (map (λ q. position_after types s.state.rows change q) s.state.positions) (e.pcb - 1) own at_start
            (omega (arith, traced.places, some, there, length-map s.state.positions (λ q. position_after types s.state.rows change q)))

        position_other : (q : ℕ) → 0 < q → q ≤ length pcbs → (q ≡ e.pcb → ⊥) → position_at (after types s e.pcb (answered reply change own) (replied r)).state q ≡ position_after types s.state.rows change (position_at s.state q)
        position_other q low high other =
            get_or-set_other (map (λ q. position_after types s.state.rows change q) s.state.positions) (e.pcb - 1) (q - 1) own at_start (λ same. other (omega (arith, same, some, low)))
            ∙ get_or-map (λ q. position_after types s.state.rows change q) s.state.positions (q - 1) at_start at_start (omega (arith, traced.places, low, high))

        own_within : (own.held ≡ []) ⊎ IsHeld (function_of e.call.function) s.state.rows reply change own → AllByRecursion (λ i. i < length (rows_after change s.state.rows)) own.held
        own_within (inl nothing) = subst (λ (xs : List ℕ). AllByRecursion (λ i. i < length (rows_after change s.state.rows)) xs) (sym nothing) tt
        own_within (inr held) = subst (λ (c : Change). AllByRecursion (λ i. i < length (rows_after c s.state.rows)) own.held) (sym held.same) held.within

        other_within : (q : ℕ) → ((position_after types s.state.rows change (position_at s.state q)).held ≡ [])
            ⊎ StaysHeld s change (all_moved types s.state e.pcb change own) (position_at s.state q).held (position_after types s.state.rows change (position_at s.state q)).held
            → AllByRecursion (λ i. i < length (rows_after change s.state.rows)) (position_after types s.state.rows change (position_at s.state q)).held
        other_within q (inl nothing) = subst (λ (xs : List ℕ). AllByRecursion (λ i. i < length (rows_after change s.state.rows)) xs) (sym nothing) tt
        other_within q (inr stays) = stays.within

        moment_after : tagged_after types pcbs b ≡ (after types s e.pcb (answered reply change own) (replied r))
        moment_after = ap (λ (eff : Effect). after types s e.pcb eff e.outcome) eff_is ∙ ap (λ (o : Outcome). after types s e.pcb (answered reply change own) o) o_is

        own_stands : (q : ℕ) → q ≡ e.pcb → (own.held ≡ []) ⊎ IsHeld (function_of e.call.function) s.state.rows reply change own
            → ((position_at (after types s e.pcb (answered reply change own) (replied r)).state q).held ≡ []) ⊎ HasHold (h ++ b ∷ []) (after types s e.pcb (answered reply change own) (replied r)) q
        own_stands q self (inl nothing) = inl (ap (λ (p : Position). p.held) (position_self q self) ∙ nothing)
        own_stands q self (inr held) = inr (
          h,
          b,
          [],
          refl,
          record {
            holds = and_from _ _ held.asked (ap (λ (o : Outcome). option_map_or (λ r. is_done r.status) (answer_in o) false) o_is ∙ ap (λ (r : Reply). is_done r.status) same ∙ held.done);
            same_pcb = sym self;
            own_refused = tt;
            others_apart = tt;
            same_rows = ap (λ (t : TaggedState). tags_held t q) (sym moment_after);
            same_bytes =
                ap (λ (p : Position). Some (bytes_of (rows_after change s.state.rows) p.held)) (position_self q self)
                ∙ ap (λ (c : Change). Some (bytes_of (rows_after c s.state.rows) own.held)) held.same
                ∙ ap (λ (bs : List ℕ). Some bs) (sym held.area)
                ∙ ap (λ (r : Reply). Some r.area) (sym same)
                ∙ ap (λ (o : Outcome). option_map_or (λ r. Some r.area) (answer_in o) None) (sym o_is);
          },
        )

        other_stands : (q : ℕ) → (q ≡ e.pcb → ⊥) → position_at (after types s e.pcb (answered reply change own) (replied r)).state q ≡ position_after types s.state.rows change (position_at s.state q)
            → ((position_at s.state q).held ≡ []) ⊎ HasHold h s q
            → ((position_after types s.state.rows change (position_at s.state q)).held ≡ [])
            ⊎ StaysHeld s change (all_moved types s.state e.pcb change own) (position_at s.state q).held (position_after types s.state.rows change (position_at s.state q)).held
            → ((position_at (after types s e.pcb (answered reply change own) (replied r)).state q).held ≡ []) ⊎ HasHold (h ++ b ∷ []) (after types s e.pcb (answered reply change own) (replied r)) q
        other_stands q other at hold (inl nothing) = inl (ap (λ (p : Position). p.held) at ∙ nothing)
        other_stands q other at (inl none) (inr stays) =
            inl (ap (λ (p : Position). p.held) at ∙ no_more (position_at s.state q).held (position_after types s.state.rows change (position_at s.state q)).held none stays.tags)
          where
            no_more : (old new : List ℕ) → old ≡ [] → map (λ i. slice_index (tags_after change s.unused s.tags) i) new ≡ map (λ i. slice_index s.tags i) old → new ≡ []
            no_more old [] is same = refl
            no_more old (x ∷ xs) is same =
                (let empty : map (λ i. slice_index (tags_after change s.unused s.tags) i) (x ∷ xs) ≡ [] = same ∙ ap (λ (ys : List ℕ). map (λ i. slice_index s.tags i) ys) is in cc)
        other_stands q other at (inr hold) (inr stays) =
            inr (extended h s (after types s e.pcb (answered reply change own) (replied r)) q b hold (λ is. absurd (other (sym is)))
            (ap (λ (p : Position). tags_at (after types s e.pcb (answered reply change own) (replied r)) p.held) at ∙ stays.tags)
            (ap (λ (p : Position). bytes_of (rows_after change s.state.rows) p.held) at ∙ stays.bytes)
            (ap (λ (eff : Effect). share (tags_at s (filter (λ i. touches (change_made eff e.outcome) i) (numbers_from 0 (length s.state.rows)))) (tags_held s q)) eff_is
            ∙ ap (λ (o : Outcome). share (tags_at s (filter (λ i. touches (change_made (answered reply change own) o) i) (numbers_from 0 (length s.state.rows)))) (tags_held s q)) o_is
            ∙ stays.apart))

    step_traced : MayComeTo (effect_in types pcbs s.state e) e.outcome → IsTraced (h ++ b ∷ []) (tagged_after types pcbs b)
    step_traced comes = by_outcome (effect_in types pcbs s.state e) e.outcome refl refl comes fair
      where
        by_outcome : (eff : Effect) (o : Outcome) → effect_in types pcbs s.state e ≡ eff → e.outcome ≡ o → MayComeTo eff o
            → IsFair (function_of e.call.function) types s.state.rows (position_at s.state e.pcb).held (λ i. excepts types e.call s.state.rows i) eff
            → IsTraced (h ++ b ∷ []) (after types s e.pcb eff o)
        by_outcome (answered reply change own) (replied r) eff_is o_is comes just = answered_traced reply change own r eff_is o_is comes just
        by_outcome (answered reply change own) area eff_is o_is comes just = absurd comes
        by_outcome (answered reply change own) full eff_is o_is comes just = refused_traced (answered reply change own) full eff_is o_is refl refl refl
        by_outcome (answered reply change own) memory eff_is o_is comes just = refused_traced (answered reply change own) memory eff_is o_is refl refl refl
        by_outcome wrong_area (replied r) eff_is o_is comes just = absurd comes
        by_outcome wrong_area area eff_is o_is comes just = refused_traced wrong_area area eff_is o_is refl refl refl
        by_outcome wrong_area full eff_is o_is comes just = absurd comes
        by_outcome wrong_area memory eff_is o_is comes just = refused_traced wrong_area memory eff_is o_is refl refl refl

  -- ---- the run

  -- a moment of a run, with all that is known before it
  abbrev IsReached : List (Moment Image) → Moment Image → Type 0
  IsReached before n = (s : TaggedState) × (e : Entry Image) × (n ≡ moment_of types pcbs s e) × (0 < e.pcb) × (e.pcb ≤ length pcbs)
      × MayComeTo (effect_in types pcbs s.state e) e.outcome × IsTraced before s

  reached : (h : List (Moment Image)) (s : TaggedState) (es : List (Entry Image)) (before rest : List (Moment Image)) (n : Moment Image) → IsTraced h s → IsRun types pcbs s.state es
      → moments types pcbs s es ≡ before ++ n ∷ rest → IsReached (h ++ before) n
  reached h s [] [] rest n traced plays is = cc
  reached h s [] (b ∷ bs) rest n traced plays is = cc
  reached h s (e ∷ es) [] rest n traced plays is =
      let head : moment_of types pcbs s e ≡ n = cc in
      (s, e, sym head, plays.0, plays.1, plays.2, subst (λ (h : List (Moment Image)). IsTraced h s) (sym (append-nil h)) traced)
  reached h s (e ∷ es) (b ∷ bs) rest n traced plays is =
      let head : moment_of types pcbs s e ≡ b = cc in
      let tail : moments types pcbs (tagged_after types pcbs (moment_of types pcbs s e)) es ≡ bs ++ n ∷ rest = cc in
      let now : IsReached ((h ++ moment_of types pcbs s e ∷ []) ++ bs) n =
      reached (h ++ moment_of types pcbs s e ∷ []) (tagged_after types pcbs (moment_of types pcbs s e)) es bs rest n (step_traced h s e traced plays.0 plays.1 plays.2) plays.3 tail in
      subst (λ (h : List (Moment Image)). IsReached h n) (append_assoc h (moment_of types pcbs s e ∷ []) bs ∙ ap (λ (m : Moment Image). h ++ m ∷ bs) head) now

  start_traced : (rows : List Segment) → IsTraced [] (tagged_at_start (opened pcbs rows))
  start_traced rows = record {
    tags = record {
      lengths = length-numbers 0 (length rows);
      once = λ t. at_most_once t 0 (length rows);
      fresh = λ t some. omega (arith, below_end t 0 (length rows) some);
    };
    places = length-map pcbs (λ _. at_start);
    within = λ q low high. subst (λ (xs : List ℕ). AllByRecursion (λ i. i < length rows) xs) (sym (held_at_start pcbs (q - 1))) tt;
    stands = λ q low high. inl (held_at_start pcbs (q - 1));
  }

  goes_back : (before : List (Moment Image)) (s : TaggedState) (e : Entry Image) → 0 < e.pcb → e.pcb ≤ length pcbs → MayComeTo (effect_in types pcbs s.state e) e.outcome → IsTraced before s
      → is_update (moment_of types pcbs s e) ≡ true
      → (first : List (Moment Image)) × (m : Moment Image) × (between : List (Moment Image)) × (before ≡ first ++ m ∷ between) × GoesBack types pcbs m (moment_of types pcbs s e) between
  goes_back before s e some there comes traced update =
      let both = and_parts _ _ update in
      by_outcome (effect_in types pcbs s.state e) e.outcome refl refl comes (fair before s e traced some there) both.0 both.1
    where
      by_outcome : (eff : Effect) (o : Outcome) → effect_in types pcbs s.state e ≡ eff → e.outcome ≡ o → MayComeTo eff o
          → IsFair (function_of e.call.function) types s.state.rows (position_at s.state e.pcb).held (λ i. excepts types e.call s.state.rows i) eff
          → option_map_or is_update_form (function_of e.call.function) false ≡ true → option_map_or (λ r. is_blank r.status) (answer_in o) false ≡ true
          → (first : List (Moment Image)) × (m : Moment Image) × (between : List (Moment Image)) × (before ≡ first ++ m ∷ between) × GoesBack types pcbs m (moment_of types pcbs s e) between
      by_outcome (answered reply change own) (replied r) eff_is o_is comes just asked blank =
          let touched : (0 < length (position_at s.state e.pcb).held) × IsSomeAnd (function_of e.call.function) (λ f. UpdatesHeld types s.state.rows (position_at s.state e.pcb).held (λ i. excepts types e.call s.state.rows i) f change) =
          just.touches asked (ap (λ (r : Reply). is_blank r.status) (sym comes) ∙ blank) in
          by_hold touched.0 touched.1 (traced.stands e.pcb some there)
        where
          by_hold : 0 < length (position_at s.state e.pcb).held
              → IsSomeAnd (function_of e.call.function) (λ f. UpdatesHeld types s.state.rows (position_at s.state e.pcb).held (λ i. excepts types e.call s.state.rows i) f change)
              → ((position_at s.state e.pcb).held ≡ []) ⊎ HasHold before s e.pcb
              → (first : List (Moment Image)) × (m : Moment Image) × (between : List (Moment Image)) × (before ≡ first ++ m ∷ between) × GoesBack types pcbs m (moment_of types pcbs s e) between
          by_hold holds touched (inl nothing) = (let none : length (position_at s.state e.pcb).held ≡ 0 = ap length nothing in absurd (omega arith))
          by_hold holds touched (inr hold) = (
            hold.0,
            hold.1,
            hold.2,
            hold.3,
            record {
              stands = hold.4;
              updates_held = subst (λ (c : Change). IsSomeAnd (function_of e.call.function) (λ f. UpdatesHeld types s.state.rows (position_at s.state e.pcb).held (λ i. excepts types e.call s.state.rows i) f c))
                  (sym (ap (λ (eff : Effect). change_made eff e.outcome) eff_is ∙ ap (λ (o : Outcome). change_made (answered reply change own) o) o_is)) touched;
            },
          )
      by_outcome (answered reply change own) area eff_is o_is comes just asked blank = absurd comes
      by_outcome (answered reply change own) full eff_is o_is comes just asked blank = cc
      by_outcome (answered reply change own) memory eff_is o_is comes just asked blank = cc
      by_outcome wrong_area (replied r) eff_is o_is comes just asked blank = absurd comes
      by_outcome wrong_area area eff_is o_is comes just asked blank = cc
      by_outcome wrong_area full eff_is o_is comes just asked blank = absurd comes
      by_outcome wrong_area memory eff_is o_is comes just asked blank = cc

pub no_lost_update : {Image : Type 0} → NoLostUpdate Image
no_lost_update {Image = Image} types pcbs rows entries before rest n plays is update =
    let here = reached types pcbs [] (tagged_at_start (opened pcbs rows)) entries before rest n (start_traced types pcbs rows) plays is in
    let moment : n ≡ moment_of types pcbs here.0 here.1 = here.2 in
    subst (λ (n : Moment Image). (first : List (Moment Image)) × (m : Moment Image) × (between : List (Moment Image)) × (before ≡ first ++ m ∷ between) × GoesBack types pcbs m n between) (sym moment)
    (goes_back types pcbs before here.0 here.1 here.3 here.4 here.5 here.6 (ap is_update (sym moment) ∙ update))

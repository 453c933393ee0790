-- A legal log with one entry more.
use Rattle.std.proofs.Common.{◌≡◌, ◌<◌, ◌≤◌, List, [], ◌∷◌, ◌++◌, length, sym, ◌∙◌, subst, refl}
use Rattle.hd_dbd.specs.Types.{SegmentType, View}
use Rattle.hd_dbd.specs.Logs.{Entry, Log}
use Rattle.hd_calls.specs.Steps.{State}
use Rattle.hd_calls.specs.Runs.{effect_in, next_state, last_state, MayComeTo, IsRun, image_at, Images, Holds, ImageFollows, ImagesFollow, IsLegalLog}

module _ {Image : Type 0} (images : Images Image) (types : List SegmentType) (pcbs : List View) where
  runs_more : (st : State) (es : List (Entry Image)) (e : Entry Image) → IsRun types pcbs st es → 0 < e.pcb → e.pcb ≤ length pcbs
      → MayComeTo (effect_in types pcbs (last_state types pcbs st es) e) e.outcome → IsRun types pcbs st (es ++ e ∷ [])
  runs_more st [] e runs low high comes = (low, high, comes, tt)
  runs_more st (x ∷ xs) e runs low high comes = (runs.0, runs.1, runs.2, runs_more (next_state types pcbs st x) xs e runs.3 low high comes)

  follow_more : (st : State) (es : List (Entry Image)) (last : Image) (e : Entry Image) (new : Image) → ImagesFollow images types pcbs st es last → e.before ≡ last
      → ImageFollows images types (last_state types pcbs st es) e.pcb (effect_in types pcbs (last_state types pcbs st es) e) e.outcome last new
      → Holds images new (next_state types pcbs (last_state types pcbs st es) e).rows
      → ImagesFollow images types pcbs st (es ++ e ∷ []) new
  follow_more st [] last e new follow before follows holds = (
    subst (λ (i : Image). Holds images i st.rows) (sym before) follow,
    subst (λ (i : Image). ImageFollows images types st e.pcb (effect_in types pcbs st e) e.outcome i new) (sym before) follows,
    holds,
  )
  follow_more st (x ∷ []) last e new follow before follows holds = (
    follow.0,
    subst (λ (i : Image). ImageFollows images types st x.pcb (effect_in types pcbs st x) x.outcome x.before i) (sym before) follow.1,
    follow_more (next_state types pcbs st x) [] last e new follow.2 before follows holds,
  )
  follow_more st (x ∷ (y ∷ ys)) last e new follow before follows holds =
      (follow.0, follow.1, follow_more (next_state types pcbs st x) (y ∷ ys) last e new follow.2 before follows holds)

  first_image : (es : List (Entry Image)) (last : Image) (e : Entry Image) (new : Image) → e.before ≡ last → image_at (es ++ e ∷ []) new ≡ image_at es last
  first_image [] last e new before = before
  first_image (x ∷ xs) last e new before = refl

  -- a call more makes a legal log of a legal log
  pub legal_more : (opened : Image) (st : State) (log : Log Image) (e : Entry Image) (new : Image) → IsLegalLog images types pcbs opened st log → e.before ≡ log.last → 0 < e.pcb → e.pcb ≤ length pcbs
      → MayComeTo (effect_in types pcbs (last_state types pcbs st log.entries) e) e.outcome
      → ImageFollows images types (last_state types pcbs st log.entries) e.pcb (effect_in types pcbs (last_state types pcbs st log.entries) e) e.outcome log.last new
      → Holds images new (next_state types pcbs (last_state types pcbs st log.entries) e).rows
      → IsLegalLog images types pcbs opened st (record { entries = log.entries ++ e ∷ []; last = new })
  legal_more opened st log e new legal before low high comes follows holds = record {
    begins = first_image log.entries log.last e new before ∙ legal.begins;
    runs = runs_more st log.entries e legal.runs low high comes;
    follows = follow_more st log.entries log.last e new legal.follows before follows holds;
  }

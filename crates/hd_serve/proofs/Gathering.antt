-- The frames of what is foretold, gathered one behind the other.
use Rattle.std.proofs.Common.{◌≡◌, ℕ, zero, suc, ◌+◌, ◌-◌, ◌<◌, ◌≤◌, List, [], ◌∷◌, ◌++◌, length, Bool, true, false, cond, Option, Some, None, IsTrue, refl, sym, ap, ◌∙◌, subst, arith, append_assoc, length-append}
use Rattle.std.specs.Prelude.{flat_map, is_none, nat_lt, ◌==◌, Result, Ok, slice_get, unwrap_or, replicate}
use Rattle.std.specs.Int.{w16, to_be_bytes}
use Rattle.std.specs.Option.{option_map_or}
use Rattle.std.proofs.lemmas.Bool.{cond-true, cond-false, lt-ltb, le-ltb, ne_eqb}
use Rattle.std.proofs.lemmas.List.{append-nil}
use Rattle.hd_dbd.specs.Types.{View}
use Rattle.hd_dbd.specs.Segment.{Segment}
use Rattle.hd_dbd.specs.Hierarchy.{Database}
use Rattle.hd_dbd.specs.Positions.{Position}
use Rattle.hd_dbd.specs.Views.{Setting}
use Rattle.hd_dbd.specs.Calls.{CallText, Reply}
use Rattle.hd_dbd.specs.declared.answer.Refused.{Refused}
use Rattle.hd_calls.specs.Steps.{Effect, State, position_at}
use Rattle.hd_calls.specs.Runs.{view_of}
use Rattle.hd_dbd.specs.Statuses.{status_text}
use Rattle.hd_volume.specs.Calls.{IsRead}
use Rattle.hd_volume.specs.Volumes.{VolumeState}
use Rattle.hd_position.specs.Kept.{Kept}
use Rattle.hd_update.specs.States.{Represents}
use Rattle.hd_session.specs.Opening.{SessionState, is_broken_by}
use Rattle.hd_session.specs.Turns.{Turn}
use Rattle.hd_session.specs.Foretelling.{can_be_foretold, and_then, answers_from, foretold_from, foretold, StandsOver, IsNextAnswer, IsNextForetold, IsOnlyRead}
use Rattle.hd_serve.specs.Frames.{frame_bytes}
use Rattle.hd_serve.specs.Answers.{answer_bytes, in_room, TOLD_ROOM}
use Rattle.hd_serve.specs.Serves.{GathersTold}
use Rattle.hd_serve.proofs.Answers.{frames}

-- Of what a call is foretold to answer in a session, so often at most, some was gathered behind a head, and so often more it may be asked: from here on the rest is
-- what is lacking.
pub record Gathers (s : SessionState) (turn : Turn) (n : ℕ) (head line : List ℕ) (outlook : List Kept) (left : ℕ) (m : SessionState) : Type 0 where
  pub only : IsOnlyRead s m
  pub few : length line ≤ length head + TOLD_ROOM
  pub behind : (rest : List ℕ) × (line ≡ head ++ rest)
  pub told : (st : State) → IsTrue s.volume.is_sound → Represents s.database s.volume s.kept st
      → (q : Position) × StandsOver s.database m.volume outlook st.rows q
      × (line ++ frames (in_room (length head + TOLD_ROOM - length line) (foretold_from s.database.types s.pcbs st.rows turn left q))
      ≡ head ++ frames (in_room TOLD_ROOM (foretold s.database.types s.pcbs st turn n)))

module _ (s : SessionState) (turn : Turn) (n : ℕ) (head : List ℕ) (pcb : View) (seen : view_of s.pcbs turn.pcb ≡ Some pcb) where
  abbrev own : Setting
  own = record { types = s.database.types; pcb = pcb }

  -- what is foretold from a position, by the PCB
  abbrev by : Bool → List Segment → ℕ → Position → List Reply
  by can rows left q = cond can (answers_from own rows turn.call left q) []

  told_is : (rows : List Segment) (left : ℕ) (q : Position) → foretold_from s.database.types s.pcbs rows turn left q ≡ by (can_be_foretold pcb turn.call) rows left q
  told_is rows left q =
      ap (λ (o : Option View). option_map_or (λ v. cond (can_be_foretold v turn.call) (answers_from (record { types = s.database.types; pcb = v }) rows turn.call left q) []) o []) seen

  -- nothing is lacking where nothing more is foretold
  all_gathered : (m : SessionState) (line : List ℕ) (outlook : List Kept) (left : ℕ) → ((rows : List Segment) (q : Position) → foretold_from s.database.types s.pcbs rows turn left q ≡ [])
      → Gathers s turn n head line outlook left m → (t : SessionState) → IsOnlyRead s t → GathersTold s turn n head line t
  all_gathered m line outlook left none g t only = record {
    only = only;
    behind = g.behind;
    told = λ st sound stands. (let p = g.told st sound stands in
        sym (append-nil line)
        ∙ ap (λ (rs : List Reply). line ++ frames (in_room (length head + TOLD_ROOM - length line) rs)) (sym (none st.rows p.0))
        ∙ p.2);
  }

  -- where it was asked so often
  pub gathered_all : (m : SessionState) (line : List ℕ) (outlook : List Kept) → Gathers s turn n head line outlook 0 m → GathersTold s turn n head line m
  gathered_all m line outlook g = all_gathered m line outlook 0 (λ rows q. told_is rows 0 q ∙ none rows q (can_be_foretold pcb turn.call)) g m g.only
    where
      none : (rows : List Segment) (q : Position) (b : Bool) → by b rows 0 q ≡ []
      none rows q true = refl
      none rows q false = refl

  -- where it can't be foretold
  pub gathered_none : (m t : SessionState) (line : List ℕ) (outlook : List Kept) (left : ℕ) → can_be_foretold pcb turn.call ≡ false → Gathers s turn n head line outlook left m → IsOnlyRead s t
      → GathersTold s turn n head line t
  gathered_none m t line outlook left can g only =
      all_gathered m line outlook left (λ rows q. told_is rows left q ∙ ap (λ (b : Bool). by b rows left q) can) g t only

  module _ (m t : SessionState) (line : List ℕ) (outlook new : List Kept) (left : ℕ) (g : Gathers s turn n head line outlook (suc left) m) (can : can_be_foretold pcb turn.call ≡ true) (reply : Reply)
      (next : IsNextForetold s.database pcb turn.call m.volume outlook reply t.volume new) (only : IsOnlyRead s t) where
    abbrev room : ℕ
    room = length head + TOLD_ROOM - length line

    abbrev size : ℕ
    size = length (frame_bytes (answer_bytes reply))

    -- what is lacking begins with the answer that came
    lacking : (rows : List Segment) (q : Position) (a : IsNextAnswer s.database pcb turn.call rows q reply t.volume new)
        → foretold_from s.database.types s.pcbs rows turn (suc left) q ≡ reply ∷ cond (is_none reply.segment) [] (answers_from own rows turn.call left a.own)
    lacking rows q a =
        told_is rows (suc left) q
        ∙ ap (λ (b : Bool). by b rows (suc left) q) can
        ∙ ap (λ (e : Effect). and_then e (λ p. answers_from own rows turn.call left p)) a.is

    answer : (st : State) → IsTrue s.volume.is_sound → (q : Position) → StandsOver s.database m.volume outlook st.rows q → IsNextAnswer s.database pcb turn.call st.rows q reply t.volume new
    answer st sound q over = next st.rows q (rw g.only.sound sound) over

    -- where it has no room
    pub gathered_full : room < size → GathersTold s turn n head line t
    gathered_full full = record {
      only = only;
      behind = g.behind;
      told = λ st sound stands. (let p = g.told st sound stands in
          let a = answer st sound p.0 p.1 in
          let more : List Reply = cond (is_none reply.segment) [] (answers_from own st.rows turn.call left a.own) in
          sym (append-nil line)
          ∙ ap (λ (rs : List Reply). line ++ frames rs) (sym (cond-true (nat_lt room size) [] (reply ∷ in_room (room - size) more) (lt-ltb room size full)))
          ∙ ap (λ (rs : List Reply). line ++ frames (in_room room rs)) (sym (lacking st.rows p.0 a))
          ∙ p.2);
    }

    module _ (fits : size ≤ room) where
      abbrev longer : List ℕ
      longer = line ++ frame_bytes (answer_bytes reply)

      long : length longer ≡ length line + size
      long = length-append line (frame_bytes (answer_bytes reply))

      longer_behind : (rest : List ℕ) × (longer ≡ head ++ rest)
      longer_behind = (
        g.behind.0 ++ frame_bytes (answer_bytes reply),
        ap (λ (xs : List ℕ). xs ++ frame_bytes (answer_bytes reply)) g.behind.1 ∙ append_assoc head g.behind.0 (frame_bytes (answer_bytes reply)),
      )

      one_more : (rows : List Segment) (q : Position) (a : IsNextAnswer s.database pcb turn.call rows q reply t.volume new)
          → (let more : List Reply = cond (is_none reply.segment) [] (answers_from own rows turn.call left a.own) in
          longer ++ frames (in_room (length head + TOLD_ROOM - length longer) more)
          ≡ line ++ frames (in_room room (foretold_from s.database.types s.pcbs rows turn (suc left) q)))
      one_more rows q a =
          let more : List Reply = cond (is_none reply.segment) [] (answers_from own rows turn.call left a.own) in
          let same : length head + TOLD_ROOM - length longer ≡ room - size = omega (arith, long, g.few, fits) in
          ap (λ (k : ℕ). longer ++ frames (in_room k more)) same
          ∙ append_assoc line (frame_bytes (answer_bytes reply)) (frames (in_room (room - size) more))
          ∙ ap (λ (rs : List Reply). line ++ frames rs) (sym (cond-false (nat_lt room size) [] (reply ∷ in_room (room - size) more) (le-ltb room size fits)))
          ∙ ap (λ (rs : List Reply). line ++ frames (in_room room rs)) (sym (lacking rows q a))

      -- where it gives no segment
      pub gathered_last : is_none reply.segment ≡ true → GathersTold s turn n head longer t
      gathered_last none = record {
        only = only;
        behind = longer_behind;
        told = λ st sound stands. (let p = g.told st sound stands in
            let a = answer st sound p.0 p.1 in
            sym (append-nil longer)
            ∙ ap (λ (b : Bool). longer ++ frames (in_room (length head + TOLD_ROOM - length longer) (cond b [] (answers_from own st.rows turn.call left a.own)))) (sym none)
            ∙ one_more st.rows p.0 a
            ∙ p.2);
      }

      -- and where it gives one
      pub gathers_more : is_none reply.segment ≡ false → Gathers s turn n head longer new left t
      gathers_more some = record {
        only = only;
        behind = longer_behind;
        few = omega (arith, long, g.few, fits);
        told = λ st sound stands. (let p = g.told st sound stands in
            let a = answer st sound p.0 p.1 in (
              a.own,
              a.stands,
              ap (λ (rs : List Reply). longer ++ frames (in_room (length head + TOLD_ROOM - length longer) rs))
                  (told_is st.rows left a.own ∙ ap (λ (b : Bool). by b st.rows left a.own) can
                  ∙ ap (λ (b : Bool). cond b [] (answers_from own st.rows turn.call left a.own)) (sym some))
                  ∙ one_more st.rows p.0 a
                  ∙ p.2,
            ));
      }

-- a session of which nothing was read
pub only_none : (s : SessionState) → s.broken ≡ false → IsOnlyRead s s
only_none s whole = record {
  same = ap (λ (b : Bool). record s { volume = s.volume; broken = b }) whole;
  read = λ sound. refl;
  failures = refl;
  sound = refl;
  committed = refl;
  sizes = (refl, refl);
}

-- and one of which some blocks were read and then others
pub only_more : {T : Type 0} (s m t : SessionState) (r : Result T Refused) (x : T) → r ≡ Ok x → IsOnlyRead s m → IsRead m.volume r t.volume
    → t ≡ record m { volume = t.volume; broken = is_broken_by r } → IsOnlyRead s t
only_more {T} s m t r x is first read same =
    let then : IsRead m.volume (Ok x) t.volume = subst (λ (y : Result T Refused). IsRead m.volume y t.volume) is read in
    let now : t ≡ record m { volume = t.volume; broken = false } = same ∙ ap (λ (y : Result T Refused). record m { volume = t.volume; broken = is_broken_by y }) is in
    record {
      same = now ∙ ap (λ (z : SessionState). record z { volume = t.volume; broken = false }) first.same;
      read = λ sound. then.image (rw then.call.sound (rw first.sound sound)) ∙ first.read sound;
      failures = then.call.counts ∙ first.failures;
      sound = then.call.sound ∙ first.sound;
      committed = then.call.committed ∙ first.committed;
      sizes = (then.call.size ∙ first.sizes.0, then.call.sizes ∙ first.sizes.1);
    }

-- there is a PCB of each number
pub view_there : (pcbs : List View) (number : ℕ) → 0 < number → number ≤ length pcbs → (pcb : View) × (view_of pcbs number ≡ Some pcb)
view_there pcbs number some within =
    let found = slice_there pcbs (number - 1) (omega (arith, some, within)) in
    (found.0, cond-false (number == 0) None (slice_get pcbs (number - 1)) (ne_eqb number 0 (λ none. absurd (omega (arith, some, none)))) ∙ found.1)
  where
    slice_there : (xs : List View) (i : ℕ) → i < length xs → (x : View) × (slice_get xs i ≡ Some x)
    slice_there [] i h = absurd (omega (arith, h))
    slice_there (x ∷ xs) zero h = (x, refl)
    slice_there (x ∷ xs) (suc i) h = slice_there xs i (omega (arith, h))

-- what the next answer is in the session, it is from the one before
pub next_of_first : (s m : SessionState) (pcb : View) (number : ℕ) (call : CallText) (outlook : List Kept) (reply : Reply) (w : VolumeState) (new : List Kept) → view_of s.pcbs number ≡ Some pcb
    → IsOnlyRead s m → ((view : View) → view_of m.pcbs number ≡ Some view → IsNextForetold m.database view call m.volume outlook reply w new)
    → IsNextForetold s.database pcb call m.volume outlook reply w new
next_of_first s m pcb number call outlook reply w new seen only next =
    let database : m.database ≡ s.database = ap (λ (z : SessionState). z.database) only.same in
    let pcbs : m.pcbs ≡ s.pcbs = ap (λ (z : SessionState). z.pcbs) only.same in
    subst (λ (d : Database). IsNextForetold d pcb call m.volume outlook reply w new) database (next pcb (ap (λ (ps : List View). view_of ps number) pcbs ∙ seen))

-- nothing is gathered of a call that can't be foretold
pub gathered_nothing : (s : SessionState) (turn : Turn) (n : ℕ) (head : List ℕ) (pcb : View) → view_of s.pcbs turn.pcb ≡ Some pcb → can_be_foretold pcb turn.call ≡ false → IsOnlyRead s s
    → GathersTold s turn n head head s
gathered_nothing s turn n head pcb seen can only = record {
  only = only;
  behind = ([], sym (append-nil head));
  told = λ st sound stands.
      sym (append-nil head)
      ∙ ap (λ (rs : List Reply). head ++ frames (in_room TOLD_ROOM rs))
      (sym (told_is s turn n head pcb seen st.rows n (position_at st turn.pcb) ∙ ap (λ (b : Bool). by s turn n head pcb seen b st.rows n (position_at st turn.pcb)) can));
}

-- before the first
pub gathers_none : (s : SessionState) (turn : Turn) (n : ℕ) (head : List ℕ) (outlook : List Kept) → IsOnlyRead s s
    → ((st : State) → IsTrue s.volume.is_sound → Represents s.database s.volume s.kept st → StandsOver s.database s.volume outlook st.rows (position_at st turn.pcb))
    → Gathers s turn n head head outlook n s
gathers_none s turn n head outlook only over = record {
  only = only;
  behind = ([], sym (append-nil head));
  few = omega arith;
  told = λ st sound stands. (
    position_at st turn.pcb,
    over st sound stands,
    ap (λ (k : ℕ). head ++ frames (in_room k (foretold s.database.types s.pcbs st turn n))) (let e : length head + TOLD_ROOM - length head ≡ TOLD_ROOM = omega arith in e),
  );
}

-- What the calls that change a database come to, of the PCB of a number.
use Rattle.std.specs.Prelude.{◌≡◌, ℕ, List, IsTrue}
use Rattle.hd_dbd.specs.Types.{View}
use Rattle.hd_dbd.specs.Hierarchy.{Database}
use Rattle.hd_dbd.specs.declared.answer.Refused.{Refused}
use Rattle.hd_dbd.specs.declared.answer.Refused.TheVariants.{Full}
use Rattle.hd_calls.specs.Ssas.{Ssa}
use Rattle.hd_calls.specs.Moves.{Rewrite}
use Rattle.hd_calls.specs.Steps.{State, Effect, position_at, replace_step, replace_rows, delete_step, delete_row}
use Rattle.hd_volume.specs.Volumes.{VolumeState}
use Rattle.hd_image.specs.Records.{links_of}
use Rattle.hd_forest.specs.Rows.{IsOnRow}
use Rattle.hd_links.specs.Steps.{rows_of}
use Rattle.hd_position.specs.Kept.{Kept, path_passed}
use Rattle.hd_get.specs.declared.outcome.Outcome.{Outcome}
use Rattle.hd_update.specs.Replacing.{AreRewritesOf, AreOnPath}
use Rattle.hd_update.specs.declared.rewrites.NewBytes.{NewBytes}
use Rattle.hd_update.specs.States.{Represents, IsAnswered, IsCallDone, IsAreaWrong, LacksRoomFor, StoresSome}

-- what REPL does in a state
abbrev pub replace_effect : Database → View → ℕ → List Ssa → List ℕ → State → Effect
replace_effect d pcb number ssas area st = replace_step (record { types = d.types; pcb = pcb }) st.rows (position_at st number) ssas area

-- what DLET does in a state
abbrev pub delete_effect : Database → View → ℕ → List Ssa → State → Effect
delete_effect d pcb number ssas st = delete_step (record { types = d.types; pcb = pcb }) st.rows (position_at st number) ssas

-- REPL was done, whatever the PCB sees
abbrev pub IsReplaceDone : Database → VolumeState → List Kept → ℕ → List Ssa → List ℕ → Outcome → VolumeState → List Kept → Type 0
IsReplaceDone d v old number ssas area outcome w new = (pcb : View) → IsCallDone d v old number (replace_effect d pcb number ssas area) outcome w new

-- where REPL was refused for the area, that has a wrong length
abbrev pub IsReplaceAreaWrong : Database → VolumeState → List Kept → ℕ → List Ssa → List ℕ → Refused → Type 0
IsReplaceAreaWrong d v old number ssas area e = (pcb : View) → IsAreaWrong d v old (replace_effect d pcb number ssas area) e

-- REPL is refused as Full only where it would be answered with blanks, and room lacks for the rows that it makes longer
abbrev pub IsReplaceFull : Database → VolumeState → List Kept → ℕ → List Ssa → List ℕ → Refused → Type 0
IsReplaceFull d v old number ssas area e =
    (pcb : View) (st : State) → e ≡ Full → IsTrue v.is_sound → Represents d v old st → LacksRoomFor d v st.rows (replace_effect d pcb number ssas area st)

-- REPL would be answered with blanks, and makes a row longer
abbrev pub ReplaceLengthens : Database → VolumeState → List Kept → ℕ → List Ssa → List ℕ → Type 0
ReplaceLengthens d v old number ssas area =
    (pcb : View) (st : State) → IsTrue v.is_sound → Represents d v old st → StoresSome st.rows (replace_effect d pcb number ssas area st)

-- ---- once the area is divided

-- The new bytes are those of these rewrites, of rows on the path of the PCB of a number.
pub record AreAsked (d : Database) (v : VolumeState) (kept : List Kept) (number : ℕ) (area : List ℕ) (news : List NewBytes) (st : State) (R : Represents d v kept st) (ws : List Rewrite) : Type 0 where
  pub are : AreRewritesOf d.types R.placed area news ws
  pub on : AreOnPath (path_passed d.types (rows_of R.placed) (position_at st number).passed) ws

-- where the store is sound, the new bytes are for rows of a state for which the volume and what is kept stand
abbrev pub HaveState : Database → VolumeState → List Kept → ℕ → List ℕ → List NewBytes → Type 0
HaveState d v kept number area news = IsTrue v.is_sound → (st : State) × (ws : List Rewrite) × (R : Represents d v kept st) × AreAsked d v kept number area news st R ws

-- what the replacement of rows by these rewrites does in a state
abbrev pub rewrites_effect : Database → View → ℕ → State → List Rewrite → Effect
rewrites_effect d pcb number st ws = replace_rows (record { types = d.types; pcb = pcb }) st.rows (position_at st number) ws

-- whatever rows of a state the new bytes were for, the replacement of these was done
abbrev pub AreRewritesDone : Database → VolumeState → List Kept → ℕ → List ℕ → List NewBytes → Outcome → VolumeState → List Kept → Type 0
AreRewritesDone d v old number area news outcome w new =
    (pcb : View) (st : State) (ws : List Rewrite) → IsTrue v.is_sound → (R : Represents d v old st) → AreAsked d v old number area news st R ws
    → IsAnswered d v st number (rewrites_effect d pcb number st ws) outcome w new

-- whatever rows of a state the new bytes were for, Full came only where these would be replaced, and room lacks for those made longer
abbrev pub AreRewritesFull : Database → VolumeState → List Kept → ℕ → List ℕ → List NewBytes → Refused → Type 0
AreRewritesFull d v old number area news e =
    (pcb : View) (st : State) (ws : List Rewrite) → e ≡ Full → IsTrue v.is_sound → (R : Represents d v old st) → AreAsked d v old number area news st R ws
    → LacksRoomFor d v st.rows (rewrites_effect d pcb number st ws)

-- whatever rows of a state the new bytes were for, these would be replaced, and one is made longer
abbrev pub RewritesLengthen : Database → VolumeState → List Kept → ℕ → List ℕ → List NewBytes → Type 0
RewritesLengthen d v old number area news =
    (pcb : View) (st : State) (ws : List Rewrite) → IsTrue v.is_sound → (R : Represents d v old st) → AreAsked d v old number area news st R ws
    → StoresSome st.rows (rewrites_effect d pcb number st ws)

-- DLET was done, whatever the PCB sees
abbrev pub IsDeleteDone : Database → VolumeState → List Kept → ℕ → List Ssa → Outcome → VolumeState → List Kept → Type 0
IsDeleteDone d v old number ssas outcome w new = (pcb : View) → IsCallDone d v old number (delete_effect d pcb number ssas) outcome w new

-- ---- once it is known which row is deleted

-- where the store is sound, the path is that of a row of a state for which the volume and what is kept stand
abbrev pub HasPath : Database → VolumeState → List Kept → List ℕ → Type 0
HasPath d v kept path = IsTrue v.is_sound → (st : State) × (i : ℕ) × (R : Represents d v kept st) × IsOnRow d.types (links_of d.types v) R.placed path i

-- whatever row of a state the path was of, its deletion was done
abbrev pub IsRowDeleted : Database → VolumeState → List Kept → ℕ → List ℕ → Outcome → VolumeState → List Kept → Type 0
IsRowDeleted d v old number path outcome w new =
    (pcb : View) (st : State) (i : ℕ) → IsTrue v.is_sound → (R : Represents d v old st) → IsOnRow d.types (links_of d.types v) R.placed path i
    → IsAnswered d v st number (delete_row (record { types = d.types; pcb = pcb }) st.rows (position_at st number) i) outcome w new

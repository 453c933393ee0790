-- The row that a get found, and its answer.
use Rattle.std.proofs.Common.{◌≡◌, ℕ, suc, ◌+◌, List, [], ◌∷◌, length, map, Bool, true, false, cond, Option, Some, None, IsTrue, refl, sym, ap, ◌∙◌, subst, arith}
use Rattle.std.specs.Prelude.{is_none}
use Rattle.std.specs.List.{list_all}
use Rattle.hd_dbd.specs.declared.answer.Status.{Status}
use Rattle.hd_dbd.specs.declared.answer.Status.TheVariants.{GB, GE}
use Rattle.hd_dbd.specs.Hierarchy.{Database}
use Rattle.hd_dbd.specs.Paths.{row_at, level_at}
use Rattle.hd_dbd.specs.Positions.{Position, at_start}
use Rattle.hd_dbd.specs.Calls.{Reply, bare, row_reply}
use Rattle.hd_dbd.specs.Forest.{Forest}
use Rattle.hd_calls.specs.declared.call.GetKind.{GetKind}
use Rattle.hd_calls.specs.declared.call.GetKind.TheVariants.{Unique, Next, NextInParent}
use Rattle.hd_calls.specs.Ssas.{Ssa}
use Rattle.hd_calls.specs.Gets.{unheld, get_missing, get_status, path_rows, bytes_of}
use Rattle.hd_calls.specs.NoLostUpdate.{is_done}
use Rattle.hd_volume.specs.Volumes.{VolumeState}
use Rattle.hd_links.specs.Links.{Links}
use Rattle.hd_links.specs.Placed.{Placed}
use Rattle.hd_links.specs.Steps.{rows_of, address_at}
use Rattle.hd_image.specs.Records.{links_of}
use Rattle.hd_forest.specs.Rows.{IsOnRow}
use Rattle.hd_position.specs.Kept.{Kept, StandsFor, path_passed}
use Rattle.hd_calls.specs.Admits.{Descend}
use Rattle.hd_get.specs.declared.outcome.Outcome.TheVariants.{Found}
use Rattle.hd_get.specs.Gets.{GetCall, IsOutcomeOf, IsPositionIn, answer_to, levels_taken}
use Rattle.hd_get.specs.Found.{sought_by}
use Rattle.hd_get.proofs.Seeking.{found_by, answer_found, answer_missing, status_is, status_done, taken_are}
use Rattle.hd_session.specs.Giving.{IsGiven, IsGivenIn}

-- what a GN that finds no row answers
abbrev ended : Position → Bool → Reply × Position
ended q b = cond b (bare GB, at_start) (bare GE, unheld q)

-- a get that finds no row is not done
undone_by : (q : Position) (b : Bool) → is_done (ended q b).0.status ≡ false
undone_by q true = refl
undone_by q false = refl

missing_undone : (q : Position) (kind : GetKind) (ssas : List Ssa) → is_done (get_missing q kind ssas).0.status ≡ false
missing_undone q Unique ssas = refl
missing_undone q Next ssas = undone_by q (list_all (λ a. is_none a.groups) ssas)
missing_undone q NextInParent ssas = refl

true_false : true ≡ false → ⊥
true_false e = cc

module _ (d : Database) (u : VolumeState) (c : GetCall) (old new : Kept) (f : Forest Placed) (q : Position) (at : IsPositionIn d u f old q) (status : Status)
    (outcome : IsOutcomeOf (Found status) (answer_to c d.types (rows_of f) q).0) (stands : StandsFor d.types f new (answer_to c d.types (rows_of f) q).1) where
  -- it found a row
  pub found_row : (i : ℕ) × (sought_by c d.types (rows_of f) q ≡ Some i)
  found_row = by (sought_by c d.types (rows_of f) q) refl
    where
      by : (o : Option ℕ) → sought_by c d.types (rows_of f) q ≡ o → (i : ℕ) × (sought_by c d.types (rows_of f) q ≡ Some i)
      by (Some i) e = (i, e)
      by None e =
          absurd (true_false (sym outcome.1 ∙ ap is_done (sym outcome.0) ∙ ap (λ (r : Reply × Position). is_done r.0.status) (answer_missing c d.types (rows_of f) q e) ∙ missing_undone q c.kind c.ssas))

  module _ (i : ℕ) (is : sought_by c d.types (rows_of f) q ≡ Some i) where
    -- what is kept has its path
    pub row_on_path : IsOnRow d.types (links_of d.types u) f new.path i
    row_on_path =
        let F = found_by c d.types (rows_of f) q i is in
        let path : new.path ≡ map (λ j. address_at f j) (path_passed d.types (rows_of f) (i + 1))
        = stands.path ∙ ap (λ (r : Reply × Position). map (λ j. address_at f j) (path_passed d.types (rows_of f) r.1.passed)) (answer_found c d.types (rows_of f) q i is) in
        record {
          holds = at.holds.records;
          within = F.within;
          is = path ∙ ap (λ n. map (λ j. address_at f j) (path_passed d.types (rows_of f) n)) (let e : i + 1 ≡ suc i = omega arith in e);
        }

    -- and the levels are those of the rows that it returns
    pub rows_given : (w : VolumeState) (levels : List ℕ) → IsTrue w.is_sound → links_of d.types w ≡ links_of d.types u → Descend d.types None c.ssas
        → levels ≡ levels_taken d.types c.ssas (length new.path) → IsGivenIn d w f new.path levels i (path_rows d.types (rows_of f) c.ssas i)
    rows_given w levels sound links descend own =
        let holding : GetCall = record { pcb = c.pcb; kind = c.kind; hold = true; ssas = c.ssas } in
        let T = taken_are d u f old q at (record { pcb = c.pcb; kind = c.kind; hold = true; ssas = c.ssas }) i (found_by (record { pcb = c.pcb; kind = c.kind; hold = true; ssas = c.ssas }) d.types (rows_of f) q i is)
        descend new.path levels row_on_path own in
        record { sound = sound; row = subst (λ (m : Links). IsOnRow d.types m f new.path i) (sym links) row_on_path; rows = T.rows; ascend = T.ascend }

    -- an answer that gives it is the get's
    pub get_reply : (reply : Reply) → reply ≡ row_reply (record { types = d.types; pcb = c.pcb }) (rows_of f) i status (bytes_of (rows_of f) (path_rows d.types (rows_of f) c.ssas i))
        → reply ≡ (answer_to c d.types (rows_of f) q).0
    get_reply reply given =
        let same = answer_found c d.types (rows_of f) q i is in
        let status_is : status ≡ get_status d.types (rows_of f) q c.kind c.ssas i = sym outcome.0 ∙ ap (λ (r : Reply × Position). r.0.status) same in
        given
        ∙ ap (λ (s : Status). row_reply (record { types = d.types; pcb = c.pcb }) (rows_of f) i s (bytes_of (rows_of f) (path_rows d.types (rows_of f) c.ssas i))) status_is
        ∙ sym (ap (λ (r : Reply × Position). r.0) same)

-- an answer without a row is bare
bare_by : (q : Position) (b : Bool) → bare (ended q b).0.status ≡ (ended q b).0
bare_by q true = refl
bare_by q false = refl

missing_bare : (q : Position) (kind : GetKind) (ssas : List Ssa) → bare (get_missing q kind ssas).0.status ≡ (get_missing q kind ssas).0
missing_bare q Unique ssas = refl
missing_bare q Next ssas = bare_by q (list_all (λ a. is_none a.groups) ssas)
missing_bare q NextInParent ssas = refl

-- an answer with a row is done
found_done : (c : GetCall) (d : Database) (f : Forest Placed) (q : Position) (i : ℕ) → sought_by c d.types (rows_of f) q ≡ Some i → is_done (answer_to c d.types (rows_of f) q).0.status ≡ true
found_done c d f q i is =
    ap (λ (r : Reply × Position). is_done r.0.status) (answer_found c d.types (rows_of f) q i is)
    ∙ ap is_done (status_is d.types (rows_of f) q c.kind c.ssas i)
    ∙ status_done c.kind c.ssas q.last (Some (record { level = level_at d.types (rows_of f) i; code = (row_at (rows_of f) i).code }))

-- a get that is not done found no row
pub missed_reply : (c : GetCall) (d : Database) (f : Forest Placed) (q : Position) (status : Status) → (answer_to c d.types (rows_of f) q).0.status ≡ status → is_done status ≡ false
    → bare status ≡ (answer_to c d.types (rows_of f) q).0
missed_reply c d f q status own undone = by (sought_by c d.types (rows_of f) q) refl
  where
    by : (o : Option ℕ) → sought_by c d.types (rows_of f) q ≡ o → bare status ≡ (answer_to c d.types (rows_of f) q).0
    by None e =
        (let same = answer_missing c d.types (rows_of f) q e in
        ap bare (sym own ∙ ap (λ (r : Reply × Position). r.0.status) same) ∙ missing_bare q c.kind c.ssas ∙ sym (ap (λ (r : Reply × Position). r.0) same))
    by (Some i) e = absurd (true_false (sym (found_done c d f q i e) ∙ ap is_done own ∙ undone))

-- what is given of a path is given of an equal one
pub given_same : {reply : Reply} (d : Database) (v : VolumeState) (p p2 ls ls2 : List ℕ) (status : Status) → p ≡ p2 → ls ≡ ls2 → IsGiven d v p ls status reply → IsGiven d v p2 ls2 status reply
given_same {reply} d v p p2 ls ls2 status same levels given =
    subst (λ (x : List ℕ). IsGiven d v p2 x status reply) levels (subst (λ (x : List ℕ). IsGiven d v x ls status reply) same given)

-- what is given of the rows that a get returns
pub given_taken : {reply : Reply} (d : Database) (v : VolumeState) (p p2 : List ℕ) (ssas : List Ssa) (status : Status) → p ≡ p2 → IsGiven d v p (levels_taken d.types ssas (length p)) status reply
    → IsGiven d v p2 (levels_taken d.types ssas (length p2)) status reply
given_taken {reply} d v p p2 ssas status same given = subst (λ (x : List ℕ). IsGiven d v x (levels_taken d.types ssas (length x)) status reply) same given

pub given_asked : {reply : Reply} (d : Database) (v : VolumeState) (p : List ℕ) (ssas other : List Ssa) (status : Status) → ssas ≡ other → IsGiven d v p (levels_taken d.types ssas (length p)) status reply
    → IsGiven d v p (levels_taken d.types other (length p)) status reply
given_asked {reply} d v p ssas other status same given = subst (λ (x : List Ssa). IsGiven d v p (levels_taken d.types x (length p)) status reply) same given

-- what is given of the last row alone
pub given_alone : {reply : Reply} (d : Database) (v : VolumeState) (p p2 : List ℕ) (status : Status) → p ≡ p2 → IsGiven d v p (length p ∷ []) status reply → IsGiven d v p2 (length p2 ∷ []) status reply
given_alone {reply} d v p p2 status same given = subst (λ (x : List ℕ). IsGiven d v x (length x ∷ []) status reply) same given

-- What REPL's area asks of a state.
use Rattle.std.proofs.Common.{◌≡◌, ℕ, ◌<◌, ◌≤◌, List, length, true, Result, Ok, Err, refl, ap, sym, ◌∙◌, subst, arith}
use Rattle.std.specs.Prelude.{◌-◌, map, slice_index_or}
use Rattle.std.proofs.lemmas.List.{get_or_default}
use Rattle.hd_dbd.specs.Types.{View}
use Rattle.hd_dbd.specs.Hierarchy.{Database}
use Rattle.hd_dbd.specs.declared.answer.Status.TheVariants.{V1}
use Rattle.hd_dbd.specs.Segment.{Segment}
use Rattle.hd_dbd.specs.Positions.{Position}
use Rattle.hd_dbd.specs.Forest.{Forest}
use Rattle.hd_calls.specs.declared.call.AreaFault.{AreaFault}
use Rattle.hd_calls.specs.declared.call.AreaFault.TheVariants.{Length, Bytes}
use Rattle.hd_calls.specs.Functions.{result_and_then}
use Rattle.hd_calls.specs.Ssas.{Ssa}
use Rattle.std.specs.List.{list_all}
use Rattle.hd_calls.specs.Moves.{Rewrite}
use Rattle.hd_calls.specs.Steps.{State, Effect, Part, wrong_area, bare_answer, position_at, divide, with_parts, held_part, rewrites_of, rewrites_asked, keeps_key, replace_rows}
use Rattle.hd_volume.specs.Volumes.{VolumeState}
use Rattle.hd_links.specs.Placed.{Placed}
use Rattle.hd_position.specs.Kept.{Kept}
use Rattle.hd_links.specs.Steps.{rows_of}
use Rattle.hd_position.specs.Kept.{kept_start, path_passed}
use Rattle.hd_image.specs.Holding.{HoldsPlaced}
use Rattle.hd_index.specs.Changes.{IsLater}
use Rattle.hd_index.proofs.ChangeLemmas.{later-image}
use Rattle.hd_image.proofs.OneImage.{held-same}
use Rattle.hd_update.specs.Calls.{replace_effect, AreAsked}
use Rattle.hd_update.specs.Held.{held_rows}
use Rattle.hd_update.specs.Replacing.{part_of, parts_held, new_bytes_from, AreRewritesOf, AreOnPath, IsRoomMadeFor, MayReplaceAll}
use Rattle.hd_update.specs.States.{Represents, kept_of}
use Rattle.hd_update.specs.declared.held.HeldRow.{HeldRow}
use Rattle.hd_update.specs.declared.rewrites.NewBytes.{NewBytes}
use Rattle.hd_update.proofs.Asked.{held_parts, all_asked}
use Rattle.hd_update.proofs.AskedPaths.{asked_on_path}
use Rattle.hd_update.proofs.Levels.{all_held_below}
use Rattle.hd_update.proofs.Standing.{own_stands}

-- ---- what was found of an area

-- The parts of the held rows, whose new bytes these are.
pub record HasParts (ssas : List Ssa) (held : List HeldRow) (r : Result (List (List ℕ)) AreaFault) (news : List NewBytes) : Type 0 where
  pub parts : List (List ℕ)
  pub is : r ≡ Ok parts
  pub are : news ≡ new_bytes_from ssas 0 held parts

pub parts_of : (ssas : List Ssa) (held : List HeldRow) (r : Result (List (List ℕ)) AreaFault) (news : List NewBytes) → result_and_then r (λ parts. Ok (new_bytes_from ssas 0 held parts)) ≡ Ok news
    → HasParts ssas held r news
parts_of ssas held (Ok parts) news is = record { parts = parts; is = refl; are = (let same : new_bytes_from ssas 0 held parts ≡ news = cc in sym same) }
parts_of ssas held (Err fault) news is = cc

-- or its fault
pub fault_of : (ssas : List Ssa) (held : List HeldRow) (r : Result (List (List ℕ)) AreaFault) (fault : AreaFault)
    → result_and_then r (λ parts. Ok (new_bytes_from ssas 0 held parts)) ≡ Err fault → r ≡ Err fault
fault_of ssas held (Ok parts) fault is = cc
fault_of ssas held (Err e) fault is = (let same : e ≡ fault = cc in ap Err same)

-- ---- what it asks

-- What is asked: the rewrites that REPL does then.
pub record Asks (d : Database) (v : VolumeState) (kept : List Kept) (st : State) (number : ℕ) (R : Represents d v kept st) (ssas : List Ssa) (area : List ℕ) (news : List NewBytes) : Type 0 where
  pub rewrites : List Rewrite
  pub asked : AreAsked d v kept number area news st R rewrites
  pub effect : (pcb : View) → replace_effect d pcb number ssas area st ≡ replace_rows (record { types = d.types; pcb = pcb }) st.rows (position_at st number) rewrites

module _ (d : Database) (v : VolumeState) (old : List Kept) (st : State) (number : ℕ) (R : Represents d v old st) (some : 0 < number) (within : number ≤ length old)
    (ssas : List Ssa) (area : List ℕ) (held : List HeldRow) (are : held ≡ held_rows R.placed (position_at st number).held) where
  abbrev f : Forest Placed
  f = R.placed

  abbrev p : Position
  p = position_at st number

  abbrev parts_asked : List Segment → List Part
  parts_asked rows = map (λ i. held_part rows ssas i) p.held

  parts_are : parts_asked st.rows ≡ map (λ h. part_of ssas h) held
  parts_are = ap parts_asked (sym R.rows) ∙ held_parts ssas f p.held ∙ ap (λ (hs : List HeldRow). map (λ h. part_of ssas h) hs) (sym are)

  abbrev by_parts : View → Result (List (List ℕ)) AreaFault → Effect
  by_parts pcb r = with_parts p r (λ parts. replace_rows (record { types = d.types; pcb = pcb }) st.rows p (rewrites_asked st.rows ssas (rewrites_of p.held parts)))

  effect_by : (pcb : View) (r : Result (List (List ℕ)) AreaFault) → parts_held d.types ssas held area ≡ r → replace_effect d pcb number ssas area st ≡ by_parts pcb r
  effect_by pcb r is = ap (by_parts pcb) (ap (λ (ps : List Part). divide d.types ps area) parts_are ∙ is)

  -- bytes lack or are left over
  pub area_wrong : (pcb : View) → parts_held d.types ssas held area ≡ Err Bytes → replace_effect d pcb number ssas area st ≡ wrong_area
  area_wrong pcb is = effect_by pcb (Err Bytes) is

  -- a row has a wrong length
  pub row_wrong : (pcb : View) → parts_held d.types ssas held area ≡ Err Length → replace_effect d pcb number ssas area st ≡ bare_answer p V1
  row_wrong pcb is = effect_by pcb (Err Length) is

  -- there are parts
  pub asks : (news : List NewBytes) → HasParts ssas held (parts_held d.types ssas held area) news → Asks d v old st number R ssas area news
  asks news P =
      let of_rows : parts_held d.types ssas (held_rows f p.held) area ≡ Ok P.parts = ap (λ (hs : List HeldRow). parts_held d.types ssas hs area) (sym are) ∙ P.is in
      let own = own_stands d v old st number R some within in
      let all = all_asked d.types f ssas area p.held P.parts (all_held_below d.types f (kept_of old number) p own) of_rows in
      let news_are : new_bytes_from ssas 0 (held_rows f p.held) P.parts ≡ news = ap (λ (hs : List HeldRow). new_bytes_from ssas 0 hs P.parts) (sym are) ∙ sym P.are in
      record {
        rewrites = rewrites_asked st.rows ssas (rewrites_of p.held P.parts);
        asked = record {
          are =
              subst (λ (ns : List NewBytes). AreRewritesOf d.types f area ns (rewrites_asked st.rows ssas (rewrites_of p.held P.parts))) news_are
              (subst (λ (rows : List Segment). AreRewritesOf d.types f area (new_bytes_from ssas 0 (held_rows f p.held) P.parts) (rewrites_asked rows ssas (rewrites_of p.held P.parts))) R.rows all);
          on =
              subst (λ (rows : List Segment). AreOnPath (path_passed d.types (rows_of f) p.passed) (rewrites_asked rows ssas (rewrites_of p.held P.parts))) R.rows
              (asked_on_path (rows_of f) ssas d.types p.passed (length (kept_of old number).path) (kept_of old number).held p.held P.parts own.held_levels own.held);
        };
        effect = λ pcb. effect_by pcb (Ok P.parts) P.is;
      }

-- ---- what may be done

module _ (d : Database) (v : VolumeState) (old : List Kept) (st : State) (number : ℕ) (R : Represents d v old st) (some : 0 < number) (within : number ≤ length old) (area : List ℕ) (news : List NewBytes)
    (ws : List Rewrite) (A : AreAsked d v old number area news st R ws) where
  -- the rewrites, in a volume of the same image that has room and memory for them
  pub may_replace_asked : (mid w : VolumeState) (path : List ℕ) → HoldsPlaced d mid R.placed → IsLater mid → w.image ≡ mid.image → w.size ≡ mid.size → w.sizes ≡ mid.sizes
      → true ≡ list_all (λ z. keeps_key d.types (rows_of R.placed) z) ws → path ≡ (kept_of old number).path → IsRoomMadeFor d.types area news w → MayReplaceAll d w path area news R.placed ws
  may_replace_asked mid w path holds later image size sizes keys is made =
      let own = own_stands d v old st number R some within in
      let room = made R.placed ws A.are in
      record {
        later = later-image mid w image later;
        holds = held-same d mid w image size sizes R.placed holds;
        are = A.are;
        keys = sym keys;
        passed = (position_at st number).passed;
        within = own.within;
        path_is = is ∙ own.path;
        on = A.on;
        room = room.0;
        memory = room.1;
      }

-- the path of a PCB
pub own_path : (kept : List Kept) (number : ℕ) (k : Kept) (path : List ℕ) → 0 < number → number ≤ length kept → path ≡ (slice_index_or kept (number - 1) k).path → path ≡ (kept_of kept number).path
own_path kept number k path some within at = at ∙ ap (λ (x : Kept). x.path) (get_or_default kept (number - 1) k kept_start (omega arith))

-- A get without arguments that goes on to the row just behind those passed.
use Rattle.std.proofs.Common.{◌≡◌, ℕ, ◌+◌, ◌-◌, ◌<◌, ◌≤◌, List, [], ◌∷◌, take, length, Bool, true, false, cond, Some, IsTrue, sym, ap, subst, ◌∙◌, refl, arith, length-append}
use Rattle.std.specs.Prelude.{◌&&◌, unwrap_or, is_some, nat_lt}
use Rattle.std.proofs.lemmas.Bool.{and_parts, ltb-true}
use Rattle.hd_dbd.specs.Types.{View}
use Rattle.hd_dbd.specs.Hierarchy.{Database, level_of}
use Rattle.hd_dbd.specs.Letters.{gives_get}
use Rattle.hd_dbd.specs.Views.{may}
use Rattle.hd_volume.specs.Volumes.{VolumeState}
use Rattle.hd_links.specs.Links.{Links}
use Rattle.hd_links.proofs.Ways.{tip_end}
use Rattle.hd_image.specs.Records.{links_of, IsVolumeOf}
use Rattle.hd_forest.specs.Onward.{onward}
use Rattle.hd_position.specs.Kept.{Kept, row_on}
use Rattle.hd_position.specs.Behind.{IsBehind}
use Rattle.hd_calls.specs.declared.call.GetKind.{GetKind}
use Rattle.hd_calls.specs.declared.call.GetKind.TheVariants.{Unique, Next, NextInParent}
use Rattle.hd_calls.specs.Ssas.{Ssa}
use Rattle.hd_calls.specs.SearchSpans.{reads_some_below}
use Rattle.hd_get.specs.declared.verdict.Verdict.TheVariants.{Found, Next as GoesOn, Over}
use Rattle.hd_get.specs.Asking.{verdict_plain}
use Rattle.hd_get.specs.Gets.{GetCall}
use Rattle.hd_get.specs.Starts.{LeadsToNext, LeadsToStart, StartsBelow}
use Rattle.hd_get.specs.Behind.{begins_behind}
use Rattle.hd_get.specs.Found.{Begins, IsSought}
use Rattle.hd_get.proofs.Grounds.{grounds}
use Rattle.hd_get.proofs.NextTwins.{there_is, stays_below, sought_there}
use Rattle.hd_get.proofs.Starts.{leads_whole, leads_below, parent_there}
use Rattle.hd_get.proofs.Seeking.{next_begins, below_begins}

-- a GNP that begins behind has a parentage row, and the row is below it
pub below_parent : (d : Database) (k : Kept) (code : ℕ) → begins_behind d.types NextInParent k code ≡ true → (is_some (row_on k.path k.parent) ≡ true) × (k.parent < level_of d.types code)
below_parent d k code is =
    let both = and_parts (is_some (row_on k.path k.parent)) (nat_lt k.parent (level_of d.types code)) is in
    (both.0, ltb-true k.parent (level_of d.types code) both.1)

module _ (d : Database) (v : VolumeState) (k : Kept) (a code : ℕ) (of : IsTrue v.is_sound → IsVolumeOf d v) (behind : IsTrue v.is_sound → IsBehind d.types (links_of d.types v) k a code) where
  abbrev path : List ℕ
  path = onward d.types k.path a code

  -- GN begins there
  leads_next : LeadsToNext d v [] k path
  leads_next f q at = leads_whole d.types (links_of d.types v) f path q.passed ((behind at.sound).0 f q at.at)

  -- and so does GNP
  starts_below : (is_some (row_on k.path k.parent) ≡ true) → k.parent < level_of d.types code → StartsBelow d v [] k (Some (unwrap_or (row_on k.path k.parent) 0, path))
  starts_below some below f q at =
      let parent : ℕ = unwrap_or (row_on k.path k.parent) 0 in
      let there : row_on k.path k.parent ≡ Some parent = there_is (row_on k.path k.parent) some in
      let within : k.parent ≤ level_of d.types code - 1 = omega (arith, below) in
      let G = grounds d v f (of at.sound) at.at.holds in record {
        parent = parent_there d.types f k q at.at.stands (Some parent) there;
        leads = subst (LeadsToStart NextInParent d v [] f q parent) (stays_below k.path k.parent (level_of d.types code - 1) parent a there within)
            (leads_below d.types f k q at.at.stands (links_of d.types v) G.addressed path parent there ((behind at.sound).0 f q at.at));
      }

  begins_of : (kind : GetKind) (pcb : View) (hold : Bool) → begins_behind d.types kind k code ≡ true → (parent : ℕ) × Begins d v (record { pcb = pcb; kind = kind; hold = hold; ssas = [] }) k (Some (parent, path))
  begins_of Unique pcb hold is = absurd (let z : false ≡ true = is in cc)
  begins_of Next pcb hold is = (0, λ f q at. next_begins d v f k q at pcb hold [] path leads_next)
  begins_of NextInParent pcb hold is =
      let B = below_parent d k code is in
      (unwrap_or (row_on k.path k.parent) 0, λ f q at. below_begins d v f k q at pcb hold [] (Some (unwrap_or (row_on k.path k.parent) 0, path)) (starts_below B.0 B.1))

  -- where the PCB may read its type, the row is the one that the get seeks
  pub sought_behind : (c : GetCall) → c.ssas ≡ [] → begins_behind d.types c.kind k code ≡ true → may (record { types = d.types; pcb = c.pcb }) gives_get code ≡ true → IsSought d v c k (Some path)
  sought_behind c bare begins read f q at =
      let m : Links = links_of d.types v in
      let B = begins_of c.kind c.pcb c.hold begins in
      let own : (parent : ℕ) × Begins d v c k (Some (parent, path))
      = (B.0, subst (λ (ssas : List Ssa). Begins d v (record { pcb = c.pcb; kind = c.kind; hold = c.hold; ssas = ssas }) k (Some (B.0, path))) (sym bare) B.1) in
      let L = (own.1 f q at).some in
      let above : List ℕ = take (level_of d.types code - 1) k.path in
      let some : 0 < length path = (let e : length path ≡ length above + 1 = length-append above (a ∷ []) in omega arith) in
      let found : verdict_plain (record { types = d.types; pcb = c.pcb }) code ≡ Found
      = ap (λ (b : Bool). cond b Found (cond (reads_some_below (record { types = d.types; pcb = c.pcb }) code) GoesOn Over)) read in
      sought_there d v f c q own.0 path L some at.holds.volume bare code ((behind at.sound).1 ∙ ap m.code (sym (tip_end 0 above a))) found

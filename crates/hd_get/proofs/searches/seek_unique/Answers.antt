use Rattle.std.proofs.Common.{◌≡◌, ℕ, ◌<◌, length, Bool, true, Some, sym, ap, subst, ◌∙◌, arith, inl, inr}
use Rattle.std.specs.Prelude.{◌==◌, ◌&&◌, not, option_map}
use Rattle.std.proofs.lemmas.Bool.{cases_lt, and_parts, eq-eqb, false≢true}
use Rattle.hd_dbd.specs.Views.{may}
use Rattle.hd_dbd.specs.Letters.{gives_get}
use Rattle.hd_volume.proofs.JoinLemmas.{if-ok-map}
use Rattle.hd_links.specs.Steps.{rows_of, path_at}
use Rattle.hd_calls.specs.declared.call.GetKind.{GetKind}
use Rattle.hd_calls.specs.Ssas.{target_code}
use Rattle.hd_get.specs.Gets.{GetCall}
use Rattle.hd_get.specs.Found.{IsBeginning, sought_by}
use Rattle.hd_get.proofs.Seeking.{position_kept, begins_told, sought_before, unique_begins, unique_found}
use Rattle.hd_get.proofs.searches.seek_unique.Goals as goal

-- some arguments, of which the last one's type may be read
reads : (n : ℕ) (b : Bool) → (not (n == 0) && b) ≡ true → (0 < n) × (b ≡ true)
reads n b e =
    let P = and_parts (not (n == 0)) b e in (
      elim (cases_lt 0 n) [
        | inl w ↦ w
        | inr w ↦ absurd (false≢true (sym (ap not (eq-eqb n 0 (let z : n ≡ 0 = omega arith in z))) ∙ P.0))
      ],
      P.1,
    )

pub returns-then-reads_target-clause-value : goal.returns-then-reads_target-clause-value
returns-then-reads_target-clause-value g c f q at =
    let d = c.args.dbd.now in
    let u = c.args.volume.now in
    let inside = c.call.inside in
    let R = reads (length inside.ssas.now) (may (record { types = d.types; pcb = inside.pcb.now }) gives_get (target_code inside.ssas.now))
    (ap (λ (call : GetCall). not (length call.ssas == 0) && may (record { types = d.types; pcb = call.pcb }) gives_get (target_code call.ssas)) c.call.view_is
    ∙ sym c.reads_target.ensures ∙ c.if-reads_target.true) in
    subst (λ (call : GetCall). Some c.in_ok-path.path ≡ option_map (λ i. path_at d.types f i) (sought_by call d.types (rows_of f) q)) c.call.view_is
    (subst (λ (kind : GetKind). Some c.in_ok-path.path ≡ option_map (λ i. path_at d.types f i)
    (sought_by (record { pcb = inside.pcb.now; kind = kind; hold = inside.hold; ssas = inside.ssas.now }) d.types (rows_of f) q))
    (sym (ap (λ (call : GetCall). call.kind) c.call.view_is ∙ c.requires.unique))
    (unique_found d u f c.args.position.now q at inside.pcb.now inside.hold inside.ssas.now c.in_ok-path.path c.in_ok-path.is_named c.in_ok-path.ensures.begins c.if-is_named.true R.0 R.1))

pub seek_from-requires-clause-there : goal.seek_from-requires-clause-there
seek_from-requires-clause-there g c = position_kept c.args.dbd.now c.args.volume.now c.unique_by_key.new.volume c.in_ok-path.ensures.read c.args.position.now c.requires.there

pub seek_from-requires-clause-begins : goal.seek_from-requires-clause-begins
seek_from-requires-clause-begins g c =
    begins_told c.args.dbd.now c.args.volume.now c.unique_by_key.new.volume c.in_ok-path.ensures.read c.args.call.now c.args.position.now (Some (0, c.in_ok-path.path))
    (λ f q at.
    let d = c.args.dbd.now in
    let u = c.args.volume.now in
    subst (λ (call : GetCall). IsBeginning d u f call q (Some (0, c.in_ok-path.path))) c.call.view_is
    (subst (λ (kind : GetKind). IsBeginning d u f (record { pcb = c.call.inside.pcb.now; kind = kind; hold = c.call.inside.hold; ssas = c.call.inside.ssas.now }) q (Some (0, c.in_ok-path.path))) (sym (ap (λ (call : GetCall). call.kind) c.call.view_is ∙ c.requires.unique))
    (unique_begins d u f c.args.position.now q at c.call.inside.pcb.now c.call.inside.hold c.call.inside.ssas.now c.in_ok-path.path c.in_ok-path.is_named c.in_ok-path.ensures.begins)))

pub returns-clause-value : goal.returns-clause-value
returns-clause-value g c =
    if-ok-map c.seek_from.result (λ path sought. sought_before c.args.dbd.now c.args.volume.now c.unique_by_key.new.volume c.in_ok-path.ensures.read c.args.call.now c.args.position.now path sought)
    c.seek_from.ensures.value

use Rattle.std.proofs.Common.{◌≡◌, ◌<◌, ℕ, List, [], Bool, false, refl, length, Ok, Some, None, cond, sym, ap, ◌∙◌, arith, inl, inr}
use Rattle.std.specs.Prelude.{◌==◌, nat_lt, option_map}
use Rattle.std.proofs.lemmas.Bool.{cases_lt, and_from, cond-true, lt-ltb, eq-eqb, eqb-true, false≢true}
use Rattle.hd_volume.proofs.CallSteps.{read-ok, reads-join}
use Rattle.hd_links.specs.Steps.{rows_of, path_at}
use Rattle.hd_forest.proofs.Reading.{after-read, sound-before, volume-kept}
use Rattle.hd_get.specs.Asking.{Asked, is_asked}
use Rattle.hd_get.proofs.Turns.{here_from}
use Rattle.hd_get.proofs.Seeking.{leads_told}
use Rattle.hd_get.proofs.NamedRows.{asked_named, first_asked, none_named}
use Rattle.hd_get.proofs.first_row.first_named.Goals as goal

-- a list that is not said to be empty has an element
some_are : (n : ℕ) (b : Bool) → b ≡ (n == 0) → b ≡ false → 0 < n
some_are n b is no_ = elim (cases_lt 0 n) [
  | inl w ↦ w
  | inr w ↦ absurd (false≢true (sym no_ ∙ is ∙ eq-eqb n 0 (let z : n ≡ 0 = omega arith in z)))
]

pub returns-then-is_empty-clause-value : goal.returns-then-is_empty-clause-value
returns-then-is_empty-clause-value g c f sound holds =
    let d = c.args.dbd.now in
    sym (ap (option_map (λ i. path_at d.types f i)) (none_named d.types (rows_of f) c.args.ssas.now (eqb-true (length c.args.ssas.now) 0 (sym c.is_empty.ensures ∙ c.if-is_empty.true))))

pub returns-then-is_named-clause-value : goal.returns-then-is_named-clause-value
returns-then-is_named-clause-value g c f sound holds =
    let d = c.args.dbd.now in
    let a : Asked = record { pcb = None; ssas = c.args.ssas.now } in
    let rows = rows_of f in
    let M = c.in_ok-path.ensures.begins f (is_asked a d.types rows) sound holds (asked_named d.types rows a) in
    let N = M.named c.if-is_named.true in
    ap (λ (p : List ℕ). Some p) (M.leads.is ∙ cond-true (nat_lt M.number (length rows)) (path_at d.types f M.number) [] (lt-ltb M.number (length rows) N.0))
    ∙ sym (ap (option_map (λ i. path_at d.types f i))
    (sym (first_asked d.types rows c.args.ssas.now (some_are (length c.args.ssas.now) c.is_empty.result c.is_empty.ensures c.if-is_empty.false)) ∙ M.same
    ∙ here_from (is_asked a d.types rows) M.number M.number (length rows) (omega arith) N.0 (λ j low high. absurd (omega arith)) (and_from _ _ N.1 refl)))

pub search-requires-clause-suits : goal.search-requires-clause-suits
search-requires-clause-suits g c = (some_are (length c.args.ssas.now) c.is_empty.result c.is_empty.ensures c.if-is_empty.false, c.requires.descend)

pub search-requires-clause-of : goal.search-requires-clause-of
search-requires-clause-of g c = volume-kept c.args.dbd.now c.args.volume.now c.unique_by_key.new.volume c.in_ok-path.ensures.read c.requires.of

pub search-requires-clause-there : goal.search-requires-clause-there
search-requires-clause-there g c now =
    let d = c.args.dbd.now in
    let u = c.args.volume.now in
    let v = c.unique_by_key.new.volume in
    let a : Asked = record { pcb = None; ssas = c.args.ssas.now } in
    let sound = sound-before u v c.in_ok-path.ensures.read now in
    let T = c.requires.holds sound in
    let rows = rows_of T.0 in
    let M = c.in_ok-path.ensures.begins T.0 (is_asked a d.types rows) sound T.1 (asked_named d.types rows a) in
    (T.0, M.number, length rows, leads_told d u v c.in_ok-path.ensures.read sound T.0 0 (length rows) c.in_ok-path.path M.number M.leads)

pub returns-then-not-branch-clause-read : goal.returns-then-not-branch-clause-read
returns-then-not-branch-clause-read g c = reads-join (Ok None) c.in_ok-path.ensures.read (read-ok None c.in_ok-search.ensures.read)

pub returns-then-not-branch-clause-value : goal.returns-then-not-branch-clause-value
returns-then-not-branch-clause-value g c f sound holds =
    let d = c.args.dbd.now in
    let u = c.args.volume.now in
    let v = c.unique_by_key.new.volume in
    let a : Asked = record { pcb = None; ssas = c.args.ssas.now } in
    let rows = rows_of f in
    let read = c.in_ok-path.ensures.read in
    let M = c.in_ok-path.ensures.begins f (is_asked a d.types rows) sound holds (asked_named d.types rows a) in
    let found = c.in_ok-search.ensures.value f M.number (length rows) (after-read d u v read sound).sound
    (leads_told d u v read sound f 0 (length rows) c.in_ok-path.path M.number M.leads) in
    ap (λ (b : Bool). cond b (Some c.search.new.path) None) (sym c.if-not-branch.true) ∙ found
    ∙ ap (option_map (λ i. path_at d.types f i)) (sym M.same ∙ first_asked d.types rows c.args.ssas.now (some_are (length c.args.ssas.now) c.is_empty.result c.is_empty.ensures c.if-is_empty.false))

pub returns-clause-read : goal.returns-clause-read
returns-clause-read g c = reads-join (Ok (Some c.search.new.path)) c.in_ok-path.ensures.read (read-ok (Some c.search.new.path) c.in_ok-search.ensures.read)

pub returns-clause-value : goal.returns-clause-value
returns-clause-value g c f sound holds =
    let d = c.args.dbd.now in
    let u = c.args.volume.now in
    let v = c.unique_by_key.new.volume in
    let a : Asked = record { pcb = None; ssas = c.args.ssas.now } in
    let rows = rows_of f in
    let read = c.in_ok-path.ensures.read in
    let M = c.in_ok-path.ensures.begins f (is_asked a d.types rows) sound holds (asked_named d.types rows a) in
    let found = c.in_ok-search.ensures.value f M.number (length rows) (after-read d u v read sound).sound
    (leads_told d u v read sound f 0 (length rows) c.in_ok-path.path M.number M.leads) in
    ap (λ (b : Bool). cond b (Some c.search.new.path) None) (sym c.if-not-branch.false) ∙ found
    ∙ ap (option_map (λ i. path_at d.types f i)) (sym M.same ∙ first_asked d.types rows c.args.ssas.now (some_are (length c.args.ssas.now) c.is_empty.result c.is_empty.ensures c.if-is_empty.false))

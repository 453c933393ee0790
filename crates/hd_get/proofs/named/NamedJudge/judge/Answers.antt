use Rattle.std.proofs.Common.{◌≡◌, ℕ, List, Bool, true, false, Ok, refl, sym, ap, ap₂, subst, ◌∙◌}
use Rattle.std.specs.Prelude.{◌==◌, ◌&&◌, not, is_none, option_copied}
use Rattle.std.proofs.lemmas.Bool.{eq-eqb, false≢true}
use Rattle.hd_calls.specs.SearchTwins.{next_twin}
use Rattle.hd_dbd.specs.Hierarchy.{Database}
use Rattle.hd_dbd.specs.Forest.{Forest}
use Rattle.hd_dbd.specs.Paths.{row_at}
use Rattle.hd_volume.specs.Volumes.{VolumeState}
use Rattle.hd_volume.proofs.CallSteps.{if-ok, read-ok, reads-join}
use Rattle.hd_links.specs.Links.{IsSegment, segment_at}
use Rattle.hd_links.specs.Placed.{Placed}
use Rattle.hd_links.specs.Steps.{rows_of}
use Rattle.hd_image.specs.Records.{links_of, IsVolumeOf}
use Rattle.hd_forest.specs.Walks.{tip}
use Rattle.hd_forest.specs.Rows.{IsOnSomeRow}
use Rattle.hd_forest.proofs.Reading.{links-kept, volume-kept}
use Rattle.hd_calls.specs.Ssas.{Ssa, target_code}
use Rattle.hd_calls.specs.Admits.{admits, is_on_way}
use Rattle.hd_calls.specs.SearchKeys.{is_past}
use Rattle.hd_get.specs.declared.look.Look.{Look}
use Rattle.hd_get.specs.declared.verdict.Verdict.TheVariants.{BesideToLast, Rest}
use Rattle.hd_get.specs.Searches.{IsPathOf, IsJudged}
use Rattle.hd_get.specs.Asking.{Asked, is_asked, is_admitted, goes_to_last, look_of, verdict_beside, verdict_down, verdict_across}
use Rattle.hd_get.proofs.Grounds.{held_rows, grounds, tip_is, tip_there, told_before}
use Rattle.hd_get.proofs.Asking.{judged_off, judged_met, judged_past, judged_later}
use Rattle.hd_get.proofs.AcrossTo.{judged_aside}
use Rattle.hd_get.proofs.named.NamedJudge.judge.Goals as goal

pub look_at-requires-clause-there : goal.look_at-requires-clause-there
look_at-requires-clause-there g c sound =
    let d = c.args.dbd.now in
    let u = c.args.volume.now in
    let T = c.requires.there sound in
    subst (IsSegment (links_of d.types u)) (sym c.tip_of.ensures) (tip_there d.types (links_of d.types u) T.0 (grounds d u T.0 (c.requires.of sound) T.2.holds) c.args.path.now T.1 T.2)

-- what a look tells of the segment at the path's end it tells of its row
row_look : (d : Database) (v : VolumeState) → IsVolumeOf d v → (path : List ℕ) (f : Forest Placed) (i : ℕ) → IsPathOf d v f path i → (tip_ : ℕ) (ssas : List Ssa) (look : Look) → tip_ ≡ tip path
    → look ≡ look_of d.types ssas (segment_at (links_of d.types v) tip_) → look ≡ look_of d.types ssas (row_at (rows_of f) i)
row_look d v of path f i at tip_ ssas look is value =
    let G = grounds d v f of at.row.holds in
    value ∙ ap (look_of d.types ssas) (ap (segment_at (links_of d.types v)) (is ∙ tip_is d.types (links_of d.types v) f G path i at.row) ∙ G.addressed.same i at.row.within)

pub returns-then-not-is_on_way-clause-value : goal.returns-then-not-is_on_way-clause-value
returns-then-not-is_on_way-clause-value g c f i at up =
    let d = c.args.dbd.now in
    let u = c.args.volume.now in
    let a : Asked = c.args.self.now in
    let of = c.requires.of at.sound in
    let seen : c.in_ok-look.look ≡ look_of d.types c.self.inside.ssas.now (row_at (rows_of f) i)
    = row_look d u of c.args.path.now f i at c.tip_of.result c.self.inside.ssas.now c.in_ok-look.look c.tip_of.ensures (c.in_ok-look.ensures.value at.sound) in
    let code : c.in_ok-look.look.code ≡ (row_at (rows_of f) i).code = ap (λ (l : Look). l.code) seen in
    let target : c.target_code-target.result ≡ target_code a.ssas = c.target_code-target.ensures ∙ ap (λ (x : Asked). target_code x.ssas) c.self.view_is in
    let off : is_on_way d.types (target_code a.ssas) (row_at (rows_of f) i).code ≡ false
    = sym (ap₂ (λ t k. is_on_way d.types t k) target code) ∙ sym c.is_on_way.ensures ∙ c.if-not-is_on_way.true in
    subst (IsJudged (is_asked a d.types (rows_of f)) (is_admitted a d.types (rows_of f)) d.types f i)
    (sym (c.verdict_beside.ensures ∙ ap₂ (λ t k. verdict_beside d.types c.self.inside.ssas.now t k) target code
    ∙ ap (λ (x : Asked). verdict_beside d.types x.ssas (target_code a.ssas) (row_at (rows_of f) i).code) c.self.view_is))
    (judged_off d.types f a (held_rows d u f of at.row.holds) c.requires.suits i at.row.within up off)

pub admits_seen-requires-clause-of : goal.admits_seen-requires-clause-of
admits_seen-requires-clause-of g c = volume-kept c.args.dbd.now c.args.volume.now c.look_at.new.volume c.in_ok-look.ensures.read c.requires.of

pub admits_seen-requires-clause-there : goal.admits_seen-requires-clause-there
admits_seen-requires-clause-there g c =
    links-kept c.args.dbd.now (λ m. IsOnSomeRow c.args.dbd.now.types m c.args.path.now) c.args.volume.now c.look_at.new.volume c.in_ok-look.ensures.read c.requires.there

pub returns-then-branch-clause-read : goal.returns-then-branch-clause-read
returns-then-branch-clause-read g c = reads-join (Ok c.verdict_down.result) c.in_ok-look.ensures.read (read-ok c.verdict_down.result c.in_ok-admits_seen.ensures.read)

pub returns-then-branch-clause-value : goal.returns-then-branch-clause-value
returns-then-branch-clause-value g c f i at up =
    let d = c.args.dbd.now in
    let u = c.args.volume.now in
    let a : Asked = c.args.self.now in
    let of = c.requires.of at.sound in
    let seen : c.in_ok-look.look ≡ look_of d.types c.self.inside.ssas.now (row_at (rows_of f) i)
    = row_look d u of c.args.path.now f i at c.tip_of.result c.self.inside.ssas.now c.in_ok-look.look c.tip_of.ensures (c.in_ok-look.ensures.value at.sound) in
    let code : c.in_ok-look.look.code ≡ (row_at (rows_of f) i).code = ap (λ (l : Look). l.code) seen in
    let target : c.target_code-target.result ≡ target_code a.ssas = c.target_code-target.ensures ∙ ap (λ (x : Asked). target_code x.ssas) c.self.view_is in
    let way : is_on_way d.types (target_code a.ssas) (row_at (rows_of f) i).code ≡ true
    = sym (ap₂ (λ t k. is_on_way d.types t k) target code) ∙ sym c.is_on_way.ensures ∙ c.if-not-is_on_way.false in
    let met : admits d.types (rows_of f) a.ssas i ≡ true
    = ap (λ (x : Asked). admits d.types (rows_of f) x.ssas i) (sym c.self.view_is)
    ∙ sym (c.in_ok-admits_seen.ensures.value f i (told_before d u c.look_at.new.volume c.in_ok-look.ensures.read f c.args.path.now i at) seen) ∙ c.if-branch.true in
    subst (IsJudged (is_asked a d.types (rows_of f)) (is_admitted a d.types (rows_of f)) d.types f i)
    (sym (c.verdict_down.ensures ∙ ap₂ (λ t k. verdict_down (option_copied c.self.inside.pcb) d.types c.self.inside.ssas.now t k) target code
    ∙ ap (λ (x : Asked). verdict_down x.pcb d.types x.ssas (target_code a.ssas) (row_at (rows_of f) i).code) c.self.view_is))
    (judged_met d.types f a (held_rows d u f of at.row.holds) c.requires.suits i at.row.within up way met)

pub returns-then-look-clause-read : goal.returns-then-look-clause-read
returns-then-look-clause-read g c =
    reads-join (Ok Rest) c.in_ok-look.ensures.read (read-ok Rest c.in_ok-admits_seen.ensures.read)

pub returns-then-look-clause-value : goal.returns-then-look-clause-value
returns-then-look-clause-value g c f i at up =
    let d = c.args.dbd.now in
    let u = c.args.volume.now in
    let a : Asked = c.args.self.now in
    let of = c.requires.of at.sound in
    let seen : c.in_ok-look.look ≡ look_of d.types c.self.inside.ssas.now (row_at (rows_of f) i)
    = row_look d u of c.args.path.now f i at c.tip_of.result c.self.inside.ssas.now c.in_ok-look.look c.tip_of.ensures (c.in_ok-look.ensures.value at.sound) in
    let code : c.in_ok-look.look.code ≡ (row_at (rows_of f) i).code = ap (λ (l : Look). l.code) seen in
    let target : c.target_code-target.result ≡ target_code a.ssas = c.target_code-target.ensures ∙ ap (λ (x : Asked). target_code x.ssas) c.self.view_is in
    let way : is_on_way d.types (target_code a.ssas) (row_at (rows_of f) i).code ≡ true
    = sym (ap₂ (λ t k. is_on_way d.types t k) target code) ∙ sym c.is_on_way.ensures ∙ c.if-not-is_on_way.false in
    let past : is_past d.types a.ssas (row_at (rows_of f) i) ≡ true
    = ap (λ (x : Asked). is_past d.types x.ssas (row_at (rows_of f) i)) (sym c.self.view_is) ∙ sym (ap (λ (l : Look). l.is_past) seen) ∙ c.if-look.true in
    judged_past d.types f a (held_rows d u f of at.row.holds) c.requires.suits i at.row.within up way past

pub seeks_later-requires-clause-of : goal.seeks_later-requires-clause-of
seeks_later-requires-clause-of g c =
    volume-kept c.args.dbd.now c.look_at.new.volume c.admits_seen.new.volume c.in_ok-admits_seen.ensures.read
    (volume-kept c.args.dbd.now c.args.volume.now c.look_at.new.volume c.in_ok-look.ensures.read c.requires.of)

pub seeks_later-requires-clause-there : goal.seeks_later-requires-clause-there
seeks_later-requires-clause-there g c =
    let d = c.args.dbd.now in
    links-kept d (λ m. IsOnSomeRow d.types m c.args.path.now) c.look_at.new.volume c.admits_seen.new.volume c.in_ok-admits_seen.ensures.read
    (links-kept d (λ m. IsOnSomeRow d.types m c.args.path.now) c.args.volume.now c.look_at.new.volume c.in_ok-look.ensures.read c.requires.there)

pub returns-then-branch-2-clause-read : goal.returns-then-branch-2-clause-read
returns-then-branch-2-clause-read g c =
    reads-join (Ok (BesideToLast c.in_ok-look.look.code)) c.in_ok-look.ensures.read
    (reads-join (Ok (BesideToLast c.in_ok-look.look.code)) c.in_ok-admits_seen.ensures.read (read-ok (BesideToLast c.in_ok-look.look.code) c.in_ok-seeks_later.ensures.read))

-- the row is not the last twin of those of which the last is asked for
seeks : (code last none : Bool) → ((not code && last) && not none) ≡ true → (code ≡ false) × (last ≡ true) × (none ≡ false)
seeks false true false e = (refl, refl, refl)
seeks true last none e = cc
seeks false false none e = cc
seeks false true true e = cc

pub returns-then-branch-2-clause-value : goal.returns-then-branch-2-clause-value
returns-then-branch-2-clause-value g c f i at up =
    let d = c.args.dbd.now in
    let u = c.args.volume.now in
    let a : Asked = c.args.self.now in
    let of = c.requires.of at.sound in
    let seen : c.in_ok-look.look ≡ look_of d.types c.self.inside.ssas.now (row_at (rows_of f) i)
    = row_look d u of c.args.path.now f i at c.tip_of.result c.self.inside.ssas.now c.in_ok-look.look c.tip_of.ensures (c.in_ok-look.ensures.value at.sound) in
    let code : c.in_ok-look.look.code ≡ (row_at (rows_of f) i).code = ap (λ (l : Look). l.code) seen in
    let target : c.target_code-target.result ≡ target_code a.ssas = c.target_code-target.ensures ∙ ap (λ (x : Asked). target_code x.ssas) c.self.view_is in
    let way : is_on_way d.types (target_code a.ssas) (row_at (rows_of f) i).code ≡ true
    = sym (ap₂ (λ t k. is_on_way d.types t k) target code) ∙ sym c.is_on_way.ensures ∙ c.if-not-is_on_way.false in
    let first = told_before d u c.look_at.new.volume c.in_ok-look.ensures.read f c.args.path.now i at in
    let next = told_before d c.look_at.new.volume c.admits_seen.new.volume c.in_ok-admits_seen.ensures.read f c.args.path.now i first in
    let unmet : admits d.types (rows_of f) a.ssas i ≡ false
    = ap (λ (x : Asked). admits d.types (rows_of f) x.ssas i) (sym c.self.view_is) ∙ sym (c.in_ok-admits_seen.ensures.value f i first seen) ∙ c.if-branch.false in
    let S = seeks (c.in_ok-look.look.code == 1) (goes_to_last d.types c.self.inside.ssas.now c.in_ok-look.look.code) (is_none (next_twin d.types (rows_of f) i))
    (sym (c.in_ok-seeks_later.ensures.value f i next) ∙ c.if-branch-2.true) in
    subst (λ k. IsJudged (is_asked a d.types (rows_of f)) (is_admitted a d.types (rows_of f)) d.types f i (BesideToLast k)) (sym code)
    (judged_later d.types f a (held_rows d u f of at.row.holds) c.requires.suits i at.row.within up way unmet
    (λ z. false≢true (sym S.0 ∙ eq-eqb c.in_ok-look.look.code 1 (code ∙ z)))
    (ap (λ (x : Asked). goes_to_last d.types x.ssas (row_at (rows_of f) i).code) (sym c.self.view_is) ∙ ap (goes_to_last d.types c.self.inside.ssas.now) (sym code) ∙ S.1)
    S.2)

pub verdict_across-requires-clause-of : goal.verdict_across-requires-clause-of
verdict_across-requires-clause-of g c =
    volume-kept c.args.dbd.now c.admits_seen.new.volume c.seeks_later.new.volume c.in_ok-seeks_later.ensures.read
    (volume-kept c.args.dbd.now c.look_at.new.volume c.admits_seen.new.volume c.in_ok-admits_seen.ensures.read
    (volume-kept c.args.dbd.now c.args.volume.now c.look_at.new.volume c.in_ok-look.ensures.read c.requires.of))

pub verdict_across-requires-clause-there : goal.verdict_across-requires-clause-there
verdict_across-requires-clause-there g c =
    let d = c.args.dbd.now in
    links-kept d (λ m. IsOnSomeRow d.types m c.args.path.now) c.admits_seen.new.volume c.seeks_later.new.volume c.in_ok-seeks_later.ensures.read
    (links-kept d (λ m. IsOnSomeRow d.types m c.args.path.now) c.look_at.new.volume c.admits_seen.new.volume c.in_ok-admits_seen.ensures.read
    (links-kept d (λ m. IsOnSomeRow d.types m c.args.path.now) c.args.volume.now c.look_at.new.volume c.in_ok-look.ensures.read c.requires.there))

pub returns-clause-read : goal.returns-clause-read
returns-clause-read g c =
    reads-join c.verdict_across.result c.in_ok-look.ensures.read
    (reads-join c.verdict_across.result c.in_ok-admits_seen.ensures.read
    (reads-join c.verdict_across.result c.in_ok-seeks_later.ensures.read c.verdict_across.ensures.read))

pub returns-clause-value : goal.returns-clause-value
returns-clause-value g c = if-ok c.verdict_across.result c.verdict_across.ensures.value
    (λ v value f i at up.
    let d = c.args.dbd.now in
    let u = c.args.volume.now in
    let a : Asked = c.args.self.now in
    let of = c.requires.of at.sound in
    let G = grounds d u f of at.row.holds in
    let seen : c.in_ok-look.look ≡ look_of d.types c.self.inside.ssas.now (row_at (rows_of f) i)
    = row_look d u of c.args.path.now f i at c.tip_of.result c.self.inside.ssas.now c.in_ok-look.look c.tip_of.ensures (c.in_ok-look.ensures.value at.sound) in
    let code : c.in_ok-look.look.code ≡ (row_at (rows_of f) i).code = ap (λ (l : Look). l.code) seen in
    let target : c.target_code-target.result ≡ target_code a.ssas = c.target_code-target.ensures ∙ ap (λ (x : Asked). target_code x.ssas) c.self.view_is in
    let way : is_on_way d.types (target_code a.ssas) (row_at (rows_of f) i).code ≡ true
    = sym (ap₂ (λ t k. is_on_way d.types t k) target code) ∙ sym c.is_on_way.ensures ∙ c.if-not-is_on_way.false in
    let first = told_before d u c.look_at.new.volume c.in_ok-look.ensures.read f c.args.path.now i at in
    let next = told_before d c.look_at.new.volume c.admits_seen.new.volume c.in_ok-admits_seen.ensures.read f c.args.path.now i first in
    let last = told_before d c.admits_seen.new.volume c.seeks_later.new.volume c.in_ok-seeks_later.ensures.read f c.args.path.now i next in
    let unmet : admits d.types (rows_of f) a.ssas i ≡ false
    = ap (λ (x : Asked). admits d.types (rows_of f) x.ssas i) (sym c.self.view_is) ∙ sym (c.in_ok-admits_seen.ensures.value f i first seen) ∙ c.if-branch.false in
    subst (IsJudged (is_asked a d.types (rows_of f)) (is_admitted a d.types (rows_of f)) d.types f i)
    (sym (value f i last (sym code) ∙ ap (λ (x : Asked). verdict_across d.types f x.ssas i) c.self.view_is))
    (judged_aside d.types f a (held_rows d u f of at.row.holds) c.requires.suits i at.row.within up way unmet (λ j l. (G.addressed.there j l).some)))

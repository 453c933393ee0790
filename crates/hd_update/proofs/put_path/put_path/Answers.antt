use Rattle.std.proofs.Common.{◌≡◌, ℕ, ◌-◌, ◌++◌, List, ◌∷◌, [], length, take, drop, IsTrue, Ok, sym, ap, subst, ◌∙◌, arith}
use Rattle.hd_dbd.specs.Hierarchy.{Database}
use Rattle.hd_dbd.specs.Segment.{Segment}
use Rattle.hd_volume.specs.Volumes.{VolumeState}
use Rattle.hd_volume.proofs.CallSteps.{sound-back}
use Rattle.hd_forest.specs.Walks.{tip}
use Rattle.hd_update.specs.Putting.{MayPut, IsPutIn}
use Rattle.hd_update.specs.NewRows.{codes_of, rows_in, MayPutThem, TakeMore, GoInBelow, ArePutIn, IsRoomLeft}
use Rattle.hd_update.proofs.PathRows.{first_and_others, others_are, more_below, first_in, all_in}
use Rattle.hd_update.proofs.RowsIn.{tip_pushed}
use Rattle.hd_update.proofs.put_path.put_path.Goals as goal

-- the rows as first and others
may_put : (d : Database) (v : VolumeState) (above : List ℕ) (y : ℕ) (rows others : List Segment) (row : Segment) → rows ≡ row ∷ others → MayPutThem d v above y rows → MayPutThem d v above y (row ∷ others)
may_put d v above y rows others row is may = subst (MayPutThem d v above y) is may

pub put_top-requires-clause-first : goal.put_top-requires-clause-first
put_top-requires-clause-first g c =
    let F = first_and_others c.args.dbd.now.types c.args.ssas.now c.args.area.now c.index-ssas-0.result c.code-code.result c.front-first.result.now c.requires.some c.index-ssas-0.is
    c.code-code.ensures c.front-first.ensures c.requires.long in
    F.rows ∙ ap (λ (rows : List Segment). record { code = c.code-code.result; bytes = c.front-first.result.now } ∷ rows) (sym (ap (drop 1) F.rows))

pub put_top-requires-clause-fits : goal.put_top-requires-clause-fits
put_top-requires-clause-fits g c = (first_and_others c.args.dbd.now.types c.args.ssas.now c.args.area.now c.index-ssas-0.result c.code-code.result c.front-first.result.now c.requires.some c.index-ssas-0.is
    c.code-code.ensures c.front-first.ensures c.requires.long).fits

pub put_top-requires-clause-root : goal.put_top-requires-clause-root
put_top-requires-clause-root g c sound root =
    let M = may_put c.args.dbd.now c.args.volume.now c.args.parent.now c.args.after _ _ _ (first_and_others c.args.dbd.now.types c.args.ssas.now c.args.area.now c.index-ssas-0.result c.code-code.result c.front-first.result.now c.requires.some c.index-ssas-0.is
    c.code-code.ensures c.front-first.ensures c.requires.long).rows (c.requires.may sound) in
    c.tip_of.ensures ∙ ap tip (M.0 root)

pub put_top-requires-clause-below : goal.put_top-requires-clause-below
put_top-requires-clause-below g c sound other none =
    let M = may_put c.args.dbd.now c.args.volume.now c.args.parent.now c.args.after _ _ _ (first_and_others c.args.dbd.now.types c.args.ssas.now c.args.area.now c.index-ssas-0.result c.code-code.result c.front-first.result.now c.requires.some c.index-ssas-0.is
    c.code-code.ensures c.front-first.ensures c.requires.long).rows (c.requires.may sound) in
    M.1 other (sym c.tip_of.ensures ∙ none)

pub put_top-requires-clause-may : goal.put_top-requires-clause-may
put_top-requires-clause-may g c sound =
    let M = may_put c.args.dbd.now c.args.volume.now c.args.parent.now c.args.after _ _ _ (first_and_others c.args.dbd.now.types c.args.ssas.now c.args.area.now c.index-ssas-0.result c.code-code.result c.front-first.result.now c.requires.some c.index-ssas-0.is
    c.code-code.ensures c.front-first.ensures c.requires.long).rows (c.requires.may sound) in
    subst (λ (h : ℕ). MayPut c.args.dbd.now c.args.volume.now h c.args.after (record { code = c.code-code.result; bytes = c.front-first.result.now })) (sym c.tip_of.ensures) M.2

pub put_others-requires-clause-more : goal.put_others-requires-clause-more
put_others-requires-clause-more g c now =
    let d = c.args.dbd.now in
    let v = c.args.volume.now in
    let w = c.put_top.new.volume in
    let F = first_and_others c.args.dbd.now.types c.args.ssas.now c.args.area.now c.index-ssas-0.result c.code-code.result c.front-first.result.now c.requires.some c.index-ssas-0.is
    c.code-code.ensures c.front-first.ensures c.requires.long in
    let o = c.in_ok-address.ensures in
    let sound : IsTrue v.is_sound = sound-back (Ok c.in_ok-address.address) v.is_sound w.is_sound o.call.sound now in
    let M = may_put d v c.args.parent.now c.args.after _ _ _ F.rows (c.requires.may sound) in
    let pushed : c.push.new.self ≡ c.args.parent.now ++ c.in_ok-address.address ∷ [] = c.push.ensures (let l : length c.copy-path.result ≡ length c.args.parent.now = ap (λ (xs : List ℕ). length xs) c.copy-path.ensures in let few = c.requires.levels sound in let some = c.requires.some in omega arith) ∙ ap (λ (xs : List ℕ). xs ++ c.in_ok-address.address ∷ []) c.copy-path.ensures in
    subst (λ (p : List ℕ). TakeMore d w (tip p) (rows_in d.types (codes_of (take (length c.args.ssas.now - 1) (drop 1 c.args.ssas.now))) (take (length c.args.area.now - length c.front-first.result.now) (drop (length c.front-first.result.now) c.args.area.now)))) (sym pushed)
    (subst (λ (rows : List Segment). TakeMore d w (tip (c.args.parent.now ++ c.in_ok-address.address ∷ [])) rows) (sym (others_are d.types c.args.ssas.now c.args.area.now c.code-code.result c.front-first.result.now F))
    (more_below d v M.2.placed c.tip_of.result c.args.after _ c.in_ok-address.address w c.args.parent.now _ (o.put_in M.2.placed sound M.2.holds) M.3 (subst (IsRoomLeft d w) (ap (drop 1) F.rows) (o.lasts sound))))

pub returns-clause-put_in : goal.returns-clause-put_in
returns-clause-put_in g c f sound holds =
    let d = c.args.dbd.now in
    let v = c.args.volume.now in
    let mid = c.put_top.new.volume in
    let w = c.put_others.new.volume in
    let F = first_and_others c.args.dbd.now.types c.args.ssas.now c.args.area.now c.index-ssas-0.result c.code-code.result c.front-first.result.now c.requires.some c.index-ssas-0.is
    c.code-code.ensures c.front-first.ensures c.requires.long in
    let o = c.in_ok-address.ensures in
    let a : ℕ = c.in_ok-address.address in
    let above : List ℕ = c.args.parent.now in
    let row : Segment = record { code = c.code-code.result; bytes = c.front-first.result.now } in
    let rest : List Segment = rows_in d.types (drop 1 (codes_of c.args.ssas.now)) (drop (length c.front-first.result.now) c.args.area.now) in
    let now : IsTrue mid.is_sound = subst IsTrue (sym o.call.sound) sound in
    let M = may_put d v above c.args.after _ rest row F.rows (c.requires.may sound) in
    let pushed : c.push.new.self ≡ above ++ a ∷ []
    = c.push.ensures (let l : length c.copy-path.result ≡ length above = ap (λ (xs : List ℕ). length xs) c.copy-path.ensures in let few = c.requires.levels sound in let some = c.requires.some in omega arith) ∙ ap (λ (xs : List ℕ). xs ++ a ∷ []) c.copy-path.ensures in
    let P : IsPutIn d v f (tip above) c.args.after row a mid = subst (λ (h : ℕ). IsPutIn d v f h c.args.after row a mid) c.tip_of.ensures (o.put_in f sound holds) in
    let goes : GoInBelow d mid (above ++ a ∷ []) rest w c.put_others.new.path
    = subst (λ (p : List ℕ). GoInBelow d mid p rest w c.put_others.new.path) pushed
    (subst (λ (rows : List Segment). GoInBelow d mid c.push.new.self rows w c.put_others.new.path) (others_are d.types c.args.ssas.now c.args.area.now c.code-code.result c.front-first.result.now F) c.in_ok-put_others.ensures.put_in) in
    subst (λ (rows : List Segment). ArePutIn d v f (tip above) c.args.after above rows c.put_others.new.path w) (sym F.rows)
    (all_in d v f (tip above) c.args.after above row a mid rest w c.put_others.new.path P
    (goes v f P.number [] (record { address = a; segment = row }) now (first_in d v f (tip above) c.args.after row a mid P) (tip_pushed above a) M.3))

use Rattle.std.proofs.Common.{◌≡◌, ℕ, true, sym, subst, ◌∷◌, []}
use Rattle.hd_dbd.specs.Rows.{row_fits}
use Rattle.hd_calls.specs.Runs.{LacksRoom, has_root}
use Rattle.hd_changes.specs.VolumeImages.{images_of}
use Rattle.hd_volume.proofs.CallSteps.{if-ok}
use Rattle.hd_volume.proofs.JoinLemmas.{if-err-map}
use Rattle.hd_update.specs.Putting.{MayPut, IsPutIn}
use Rattle.hd_update.proofs.puts.put_row.Goals as goal

pub put_root-requires-clause-fits : goal.put_root-requires-clause-fits
put_root-requires-clause-fits g c = subst (λ (k : ℕ). row_fits c.args.dbd.now.types (record { code = k; bytes = c.args.bytes.now }) ≡ true) c.if-code-eq1.true c.requires.fits

pub put_root-requires-clause-may : goal.put_root-requires-clause-may
put_root-requires-clause-may g c sound =
    subst (λ (k : ℕ). MayPut c.args.dbd.now c.args.volume.now 0 c.args.after (record { code = k; bytes = c.args.bytes.now })) c.if-code-eq1.true
    (subst (λ (h : ℕ). MayPut c.args.dbd.now c.args.volume.now h c.args.after (record { code = c.args.code; bytes = c.args.bytes.now })) (c.requires.root sound c.if-code-eq1.true) (c.requires.may sound))

pub returns-then-code-eq1-clause-put_in : goal.returns-then-code-eq1-clause-put_in
returns-then-code-eq1-clause-put_in g c = if-ok c.put_root.result c.put_root.ensures.put_in (λ a put f sound holds.
    subst (λ (k : ℕ). IsPutIn c.args.dbd.now c.args.volume.now f c.args.parent c.args.after (record { code = k; bytes = c.args.bytes.now }) a c.put_root.new.volume) (sym c.if-code-eq1.true)
    (subst (λ (h : ℕ). IsPutIn c.args.dbd.now c.args.volume.now f h c.args.after (record { code = 1; bytes = c.args.bytes.now }) a c.put_root.new.volume) (sym (c.requires.root sound c.if-code-eq1.true))
    (put f sound holds)))

pub returns-then-code-eq1-clause-full : goal.returns-then-code-eq1-clause-full
returns-then-code-eq1-clause-full g c = if-err-map c.put_root.result (λ e full is sound some.
    subst (λ (k : ℕ). LacksRoom (images_of c.args.dbd.now) c.args.dbd.now.types c.args.volume.now.image (record { code = k; bytes = c.args.bytes.now } ∷ []) (has_root (record { code = k; bytes = c.args.bytes.now } ∷ []))) (sym c.if-code-eq1.true)
    (full is sound some)) c.put_root.ensures.full

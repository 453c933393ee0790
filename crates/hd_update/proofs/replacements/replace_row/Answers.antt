use Rattle.std.proofs.Common.{◌≡◌, ℕ, IsTrue, Ok, refl, sym, ap, subst, ◌∙◌, inl, inr}
use Rattle.hd_dbd.specs.Rows.{key_of}
use Rattle.hd_dbd.specs.Segment.{Segment}
use Rattle.hd_volume.specs.Headers.{Header}
use Rattle.hd_volume.proofs.CallSteps.{call-ok}
use Rattle.hd_volume.proofs.JoinLemmas.{calls-join}
use Rattle.hd_links.specs.Links.{segment_at}
use Rattle.hd_image.specs.Records.{links_of}
use Rattle.hd_forest.specs.Walks.{tip}
use Rattle.hd_index.specs.Changes.{entries_for}
use Rattle.hd_index.proofs.ChangeLemmas.{set-index, later-same}
use Rattle.hd_index.specs.Maps.{with_address}
use Rattle.hd_changes.specs.SetRows.{KeepsEntry}
use Rattle.hd_changes.proofs.SetRows.{with-entries}
use Rattle.hd_update.proofs.replacements.replace_row.Goals as goal
use Rattle.hd_update.proofs.replacements.replace_row.Goals.{else-code-eq1-via-then-code-eq1+else-to-from, else-code-eq1-via-else-code-eq1}

-- the index is that of the database while the key has the old address
pub set-requires : goal.set-requires
set-requires g c = record {
  index = λ sound.
      (let d = c.args.dbd.now in
      let v = c.args.volume.now in
      let w = c.replace.new.volume in
      let o = c.in_ok-to.ensures in
      let before : IsTrue v.is_sound = subst IsTrue o.call.sound sound in
      let M = c.requires.may before in
      let W = with-entries d v w M.placed c.args.path.now (record { code = c.args.code; bytes = c.args.bytes.now }) c.in_ok-to.to M.holds (o.set before) in
      set-index d w W.volume.size W.index (later-same v w (ap (λ (z : Header). z.version) (o.set before).room.rest.header) M.later));
}

pub returns-in_ok-set-clause-call : goal.returns-in_ok-set-clause-call
returns-in_ok-set-clause-call g c = calls-join (Ok c.in_ok-to.to) c.in_ok-to.ensures.call (call-ok c.in_ok-to.to c.in_ok-set.ensures.call)

pub returns-in_ok-set-clause-replaced : goal.returns-in_ok-set-clause-replaced
returns-in_ok-set-clause-replaced g c sound =
    let d = c.args.dbd.now in
    let v = c.args.volume.now in
    let w = c.replace.new.volume in
    let x = c.set.new.volume in
    let o = c.in_ok-to.ensures in
    let e = c.in_ok-set.ensures in
    let after : IsTrue w.is_sound = subst IsTrue (sym o.call.sound) sound in
    let M = c.requires.may sound in
    let path = c.args.path.now in
    let row : Segment = record { code = c.args.code; bytes = c.args.bytes.now } in
    let root : (links_of d.types v).code (tip path) ≡ 1 = M.typed ∙ c.if-code-eq1.true in
    let key : key_of d.types (segment_at (links_of d.types v) (tip path)) ≡ c.key_of.result.now =
    sym (c.key_of.ensures.value ∙ ap (λ (k : ℕ). key_of d.types (record { code = k; bytes = row.bytes })) (sym M.typed) ∙ M.may.key) in
    record {
      between = w;
      set = o.set sound;
      entered = inr (record {
        root = root;
        entered = record {
          size = e.call.size;
          sizes = e.call.sizes;
          index = e.index after;
          entries = e.entries after ∙ ap (λ k. with_address k c.in_ok-to.to (entries_for d w)) (sym key);
          change = e.changed after;
        };
        spares = e.spares after;
        room = e.room;
      });
    }

pub returns-else-code-eq1-clause-replaced : goal.returns-else-code-eq1-clause-replaced
returns-else-code-eq1-clause-replaced g c sound =
    let d = c.args.dbd.now in
    let v = c.args.volume.now in
    let M = c.requires.may sound in
    let keeps : KeepsEntry d v c.args.path.now c.in_ok-to.to = elim c.else-code-eq1.branch [
      | else-code-eq1-via-then-code-eq1+else-to-from w ↦ inr (stays c.in_ok-to.to (tip c.args.path.now) c.tip_of-from.result c.tip_of-from.ensures w.if-to-from.false)
      | else-code-eq1-via-else-code-eq1 w ↦ inl (λ root. w.if-code-eq1.false (sym M.typed ∙ root))
    ] in
    record { between = c.replace.new.volume; set = c.in_ok-to.ensures.set sound; entered = inl (keeps, refl) }
  where
    stays : (to a from : ℕ) → from ≡ a → to ≡ from → to ≡ a
    stays to a from is same = same ∙ is

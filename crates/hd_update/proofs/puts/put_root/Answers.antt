use Rattle.std.proofs.Common.{◌≡◌, ℕ, ◌<◌, ◌≤◌, [], ◌∷◌, List, true, IsTrue, Ok, sym, subst, arith}
use Rattle.hd_volume.specs.Indexes.{root_key_length}
use Rattle.hd_index_blocks.specs.Needs.{entry_growth}
use Rattle.hd_volume.proofs.CallSteps.{if-ok, sound-back}
use Rattle.hd_volume.proofs.JoinLemmas.{if-err-map}
use Rattle.hd_links.specs.Links.{Links}
use Rattle.hd_calls.specs.Runs.{LacksRoom}
use Rattle.hd_image.proofs.OneImage.{links-same, held-same}
use Rattle.hd_forest.specs.Updates.{MayLink}
use Rattle.hd_changes.specs.VolumeImages.{images_of}
use Rattle.hd_index.proofs.NeedLemmas.{growth-same, few-grown}
use Rattle.hd_index.proofs.ChangeLemmas.{set-index, later-image}
use Rattle.hd_update.proofs.PutRoots.{put_before}
use Rattle.hd_update.proofs.puts.put_root.Goals as goal

pub put_reserved_root-requires-clause-may : goal.put_reserved_root-requires-clause-may
put_reserved_root-requires-clause-may g c now =
    let d = c.args.dbd.now in
    let v = c.args.volume.now in
    let w = c.reserve.new.self in
    let o = c.in_ok-reserve.ensures in
    let sound : IsTrue v.is_sound = sound-back (Ok c.in_ok-reserve.field-0) v.is_sound w.is_sound o.call.sound now in
    let M = c.requires.may sound in
    record {
      later = later-image v w (o.image now).0 M.later;
      placed = M.placed;
      holds = held-same d v w (o.image now).0 o.call.size o.call.sizes M.placed M.holds;
      may = subst (λ (m : Links). MayLink d.types m 0 c.args.after (record { code = 1; bytes = c.args.bytes.now })) (sym (links-same d.types v w (o.image now).0 o.call.size o.call.sizes)) M.may;
    }

pub put_reserved_root-requires-clause-memory : goal.put_reserved_root-requires-clause-memory
put_reserved_root-requires-clause-memory g c now =
    let v = c.args.volume.now in
    let w = c.reserve.new.self in
    let o = c.in_ok-reserve.ensures in
    let sound : IsTrue v.is_sound = sound-back (Ok c.in_ok-reserve.field-0) v.is_sound w.is_sound o.call.sound now in
    let M = c.requires.may sound in
    let index = set-index c.args.dbd.now v c.requires.size M.holds.index M.later in
    let own : c.growth.result ≡ entry_growth v = c.growth.ensures c.args.dbd.now sound index in
    let growth : entry_growth w ≡ entry_growth v = growth-same v w (o.image now).0 in
    let few : entry_growth v < 1000 = few-grown (root_key_length c.args.dbd.now.types) v index.index in
    let more = c.saturating_add-blocks.ensures in
    let room : c.saturating_add-blocks.result ≤ w.room = o.room in
    omega arith

pub returns-clause-put_in : goal.returns-clause-put_in
returns-clause-put_in g c = if-ok c.put_reserved_root.result c.put_reserved_root.ensures.put_in (λ a put f sound holds.
    let d = c.args.dbd.now in
    let v = c.args.volume.now in
    let w = c.reserve.new.self in
    let o = c.in_ok-reserve.ensures in
    let now : IsTrue w.is_sound = rw o.call.sound sound in
    put_before d v w c.put_reserved_root.new.volume f 0 c.args.after (record { code = 1; bytes = c.args.bytes.now }) a (record { same = record { size = o.call.size; sizes = o.call.sizes }; image = (o.image now).0 }) holds
    (put f now (held-same d v w (o.image now).0 o.call.size o.call.sizes f holds)))

pub returns-clause-full : goal.returns-clause-full
returns-clause-full g c = if-err-map c.put_reserved_root.result (λ e full is sound some.
    (let d = c.args.dbd.now in
    let v = c.args.volume.now in
    let w = c.reserve.new.self in
    let o = c.in_ok-reserve.ensures in
    let now : IsTrue w.is_sound = rw o.call.sound sound in
    let F = some sound in
    subst (λ (x : List ℕ). LacksRoom (images_of d) d.types x (record { code = 1; bytes = c.args.bytes.now } ∷ []) true) (o.image now).0
    (full is now (λ _. (F.0, held-same d v w (o.image now).0 o.call.size o.call.sizes F.0 F.1, later-image v w (o.image now).0 F.2))))) c.put_reserved_root.ensures.full

use Rattle.std.proofs.Common.{◌≡◌, ℕ, List, IsTrue, refl, ap, subst, arith}
use Rattle.hd_volume.specs.Volumes.{VolumeState}
use Rattle.hd_volume.proofs.FrameLemmas.{AreSame}
use Rattle.hd_index_blocks.specs.Maps.{without_key}
use Rattle.hd_index_blocks.specs.IndexSets.{index_entries}
use Rattle.hd_index.specs.Changes.{IsChanged}
use Rattle.hd_index.proofs.Trims.{all-cleared}
use Rattle.hd_index.proofs.leave.clear.Goals as goal

pub drop_way-requires-clause-cut : goal.drop_way-requires-clause-cut
drop_way-requires-clause-cut g c now =
    let u = c.args.volume.now in
    let y = c.set_top.new.self in
    let w = c.set_height.new.self in
    let k : ℕ = c.args.key_length in
    let rest-y = c.set_top.ensures.rest in
    let rest-w = c.set_height.ensures.rest in
    let sw : w.is_sound ≡ y.is_sound = ap (λ (t : VolumeState). t.is_sound) rest-w in
    let sy : y.is_sound ≡ u.is_sound = ap (λ (t : VolumeState). t.is_sound) rest-y in
    let s2 : IsTrue y.is_sound = rw (← sw) now in
    let sound : IsTrue u.is_sound = rw (← sy) s2 in
    let same-y : AreSame u y = record { size = ap (λ (t : VolumeState). t.size) rest-y; sizes = ap (λ (t : VolumeState). t.sizes) rest-y } in
    let same-w : AreSame y w = record { size = ap (λ (t : VolumeState). t.size) rest-w; sizes = ap (λ (t : VolumeState). t.sizes) rest-w } in
    let top = c.requires.top sound in
    let some = c.requires.some in
    let r = all-cleared k u y w c.args.levels (record { left = 0; block = c.args.top }) (c.requires.index sound) (omega arith) (c.requires.levels sound) refl top (c.requires.thin sound)
    same-y (c.set_top.ensures.set sound) same-w (c.set_height.ensures.set s2) in
    (u, r.0, _, r.2)

pub returns-clause-changed : goal.returns-clause-changed
returns-clause-changed g c sound key there =
    let u = c.args.volume.now in
    let y = c.set_top.new.self in
    let w = c.set_height.new.self in
    let k : ℕ = c.args.key_length in
    let rest-y = c.set_top.ensures.rest in
    let rest-w = c.set_height.ensures.rest in
    let sw : w.is_sound ≡ y.is_sound = ap (λ (t : VolumeState). t.is_sound) rest-w in
    let sy : y.is_sound ≡ u.is_sound = ap (λ (t : VolumeState). t.is_sound) rest-y in
    let s2 : IsTrue y.is_sound = rw sy sound in
    let now : IsTrue w.is_sound = rw sw s2 in
    let same-y : AreSame u y = record { size = ap (λ (t : VolumeState). t.size) rest-y; sizes = ap (λ (t : VolumeState). t.sizes) rest-y } in
    let same-w : AreSame y w = record { size = ap (λ (t : VolumeState). t.size) rest-w; sizes = ap (λ (t : VolumeState). t.sizes) rest-w } in
    let top = c.requires.top sound in
    let some = c.requires.some in
    let r = all-cleared k u y w c.args.levels (record { left = 0; block = c.args.top }) (c.requires.index sound) (omega arith) (c.requires.levels sound) refl top (c.requires.thin sound)
    same-y (c.set_top.ensures.set sound) same-w (c.set_height.ensures.set s2) in
    let K : List ℕ → Type 0 = λ t. IsChanged k u (without_key t (index_entries k u)) 0 c.drop_way.new.volume in
    subst K (r.1 key there) (c.in_ok-drop_way.ensures.changed now u r.0 _ r.2)

use Rattle.std.proofs.Common.{◌≡◌, inr, ℕ, IsTrue, false, List, drop, Result, Err, IfErr, sym, ap, ◌∙◌, arith, subst}
use Rattle.std.proofs.lemmas.Bool.{false≢true}
use Rattle.std.proofs.lemmas.Result.{err_from_is_err_and}
use Rattle.hd_bytes.specs.Numbers.{number_at}
use Rattle.hd_dbd.specs.declared.answer.Refused.{Refused}
use Rattle.hd_dbd.specs.declared.answer.Refused.TheVariants.{Memory, Full, Device}
use Rattle.hd_volume.specs.Volumes.{VolumeState, block_at, IsKind}
use Rattle.hd_volume.specs.Entries.{Entry, entries_in}
use Rattle.hd_volume.proofs.FrameLemmas.{AreSame}
use Rattle.hd_index.specs.Edits.{IsRefused}
use Rattle.hd_index.proofs.StepLemmas.{own-level, own-bears, taken-fresh, taken-stays, taken-bears, lower-stays, halved}
use Rattle.hd_index.proofs.block_division.divide.Goals as goal

pub fill_upper-requires-clause-block : goal.fill_upper-requires-clause-block
fill_upper-requires-clause-block g c now =
    let u = c.args.volume.now in
    let v = c.take_block.new.self in
    let sound : IsTrue u.is_sound = rw (← c.in_ok-m.ensures.call.sound) now in
    let same : AreSame u v = record { size = c.in_ok-m.ensures.call.size; sizes = c.in_ok-m.ensures.call.sizes } in
    let least = c.requires.least in
    own-level c.args.key_length c.args.level v c.args.n (taken-stays c.in_ok-m.m same (c.requires.formatted sound) (omega arith) (c.in_ok-m.ensures.taken sound) c.args.key_length c.args.level c.args.n (c.requires.block sound)).0

pub fill_upper-requires-clause-empty : goal.fill_upper-requires-clause-empty
fill_upper-requires-clause-empty g c now =
    let u = c.args.volume.now in
    let sound : IsTrue u.is_sound = rw (← c.in_ok-m.ensures.call.sound) now in
    own-bears c.args.key_length c.args.level c.take_block.new.self c.in_ok-m.m (taken-bears c.args.key_length c.args.level c.in_ok-m.m (c.in_ok-m.ensures.taken sound))

pub fill_upper-requires-clause-apart : goal.fill_upper-requires-clause-apart
fill_upper-requires-clause-apart g c now e =
    let u : VolumeState = c.args.volume.now in
    let v : VolumeState = c.take_block.new.self in
    let sound : IsTrue u.is_sound = rw (← c.in_ok-m.ensures.call.sound) now in
    let same : AreSame u v = record { size = c.in_ok-m.ensures.call.size; sizes = c.in_ok-m.ensures.call.sizes } in
    let least = c.requires.least in
    let is = c.requires.block sound in
    let K : ℕ → Type 0 = λ i. IsKind u 2 i in
    taken-fresh c.in_ok-m.m same (c.requires.formatted sound) (omega arith) (c.in_ok-m.ensures.taken sound) (subst K (sym e) is.is)

pub fill_upper-requires-clause-count : goal.fill_upper-requires-clause-count
fill_upper-requires-clause-count g c now =
    let u : VolumeState = c.args.volume.now in
    let v : VolumeState = c.take_block.new.self in
    let sound : IsTrue u.is_sound = rw (← c.in_ok-m.ensures.call.sound) now in
    let same : AreSame u v = record { size = c.in_ok-m.ensures.call.size; sizes = c.in_ok-m.ensures.call.sizes } in
    let least = c.requires.least in
    ap (λ (b : List ℕ). number_at 2 b 4) (taken-stays c.in_ok-m.m same (c.requires.formatted sound) (omega arith) (c.in_ok-m.ensures.taken sound) c.args.key_length c.args.level c.args.n (c.requires.block sound)).1
    ∙ c.requires.count sound

pub returns-in_err-fill_upper-clause-refused : goal.returns-in_err-fill_upper-clause-refused
returns-in_err-fill_upper-clause-refused g c =
    let u : VolumeState = c.args.volume.now in
    let x : VolumeState = c.fill_upper.new.volume in
    let p = err_from_is_err_and c.from_residual-in_err-fill_upper.result c.from_residual-in_err-fill_upper.ensures.1 in
    let device = c.in_err-fill_upper.ensures.refusal in
    subst (λ (r : Result ℕ Refused). IfErr r (λ e. IsRefused u e x)) (sym (p.1 ∙ ap Err p.2))
    (record {
      kept = λ s. (let lost : x.is_sound ≡ false = rw device at c.in_err-fill_upper.ensures.call.sound in absurd (let z : IsTrue false = rw lost at s in false≢true z));
      full = λ is sound. (let no : ◌≡◌ {A = Refused} Full Device = sym is ∙ device in absurd (cc));
      memory = λ is. (let no : ◌≡◌ {A = Refused} Memory Device = sym is ∙ device in absurd (cc));
      no_free = λ is sound free. (let no : ◌≡◌ {A = Refused} Memory Device = sym is ∙ device in absurd (cc));
      refusal = inr (inr device);
    })

pub keep_lower-requires-clause-block : goal.keep_lower-requires-clause-block
keep_lower-requires-clause-block g c last =
    let u = c.args.volume.now in
    let v = c.take_block.new.self in
    let now : IsTrue v.is_sound = rw (← c.in_ok-fill_upper.ensures.call.sound) last in
    let sound : IsTrue u.is_sound = rw (← c.in_ok-m.ensures.call.sound) now in
    let same : AreSame u v = record { size = c.in_ok-m.ensures.call.size; sizes = c.in_ok-m.ensures.call.sizes } in
    let least = c.requires.least in
    let es : List Entry = drop c.args.half (entries_in c.args.key_length (block_at v c.args.n)) in
    own-level c.args.key_length c.args.level c.fill_upper.new.volume c.args.n (lower-stays c.args.key_length c.args.level c.args.n c.in_ok-m.m es c.args.next same (c.requires.formatted sound) (omega arith) (c.requires.block sound) (c.in_ok-m.ensures.taken sound) (c.in_ok-fill_upper.ensures.filled now)).0

pub keep_lower-requires-clause-count : goal.keep_lower-requires-clause-count
keep_lower-requires-clause-count g c last =
    let u = c.args.volume.now in
    let v = c.take_block.new.self in
    let now : IsTrue v.is_sound = rw (← c.in_ok-fill_upper.ensures.call.sound) last in
    let sound : IsTrue u.is_sound = rw (← c.in_ok-m.ensures.call.sound) now in
    let same : AreSame u v = record { size = c.in_ok-m.ensures.call.size; sizes = c.in_ok-m.ensures.call.sizes } in
    let least = c.requires.least in
    let es : List Entry = drop c.args.half (entries_in c.args.key_length (block_at v c.args.n)) in
    let stays = lower-stays c.args.key_length c.args.level c.args.n c.in_ok-m.m es c.args.next same (c.requires.formatted sound) (omega arith) (c.requires.block sound) (c.in_ok-m.ensures.taken sound) (c.in_ok-fill_upper.ensures.filled now) in
    ap (λ (b : List ℕ). number_at 2 b 4) stays.1 ∙ c.requires.count sound

pub returns-clause-halved : goal.returns-clause-halved
returns-clause-halved g c sound =
    let u = c.args.volume.now in
    let v = c.take_block.new.self in
    let x = c.fill_upper.new.volume in
    let now : IsTrue v.is_sound = rw c.in_ok-m.ensures.call.sound sound in
    let last : IsTrue x.is_sound = rw c.in_ok-fill_upper.ensures.call.sound now in
    let same : AreSame u v = record { size = c.in_ok-m.ensures.call.size; sizes = c.in_ok-m.ensures.call.sizes } in
    let least = c.requires.least in
    halved c.args.key_length c.args.level c.args.n c.in_ok-m.m c.args.half c.args.next same (c.requires.formatted sound) (omega arith) (c.requires.block sound) (c.in_ok-m.ensures.taken sound) (c.in_ok-fill_upper.ensures.filled now) (c.in_ok-keep_lower.ensures.kept last)

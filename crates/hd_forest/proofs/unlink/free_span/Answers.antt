use Rattle.std.proofs.Common.{◌≡◌, ◌≢◌, ℕ, suc, ◌+◌, ◌-◌, ◌*◌, List, [], ◌∷◌, ◌++◌, length, Bool, false, IsTrue, Ok, refl, sym, ap, subst, ◌∙◌, arith}
use Rattle.std.specs.Prelude.{◌==◌}
use Rattle.std.proofs.lemmas.Bool.{eq-eqb, eqb-true, false≢true}
use Rattle.hd_volume.proofs.JoinLemmas.{calls-join}
use Rattle.hd_links.specs.Links.{Links}
use Rattle.hd_image.specs.Records.{links_of}
use Rattle.hd_image.proofs.Found.{records-link}
use Rattle.hd_volume.proofs.CallSteps.{call-ok, call-none}
use Rattle.hd_forest.proofs.Keeping.{keeps-refl, keeps-trans}
use Rattle.hd_forest.proofs.FreeSpans.{InSpan}
use Rattle.hd_forest.proofs.SpanStarts.{span_of}
use Rattle.hd_forest.proofs.SpanEnds.{begins, goes, on-way, has-room, ends, spent, twice-fits}
use Rattle.hd_forest.proofs.unlink.free_span.Goals as goal

no-length : (xs : List ℕ) → length xs ≡ 0 → xs ≡ []
no-length [] e = refl
no-length (x ∷ xs) e = absurd (omega arith)

pub loop-init : goal.loop-init
loop-init g c =
    let d = c.args.dbd.now in
    let u = c.args.volume.now in
    let m : Links = links_of d.types u in
    record {
      call = call-none u 0;
      room = refl;
      volume_is = λ sound. c.requires.of sound;
      keeps = λ sound. keeps-refl u;
      left = λ sound under S.
          let fit = (c.requires.of sound).fit in
          let G = records-link d u fit (c.requires.of sound) in
          let most : c.saturating_mul-most.result - 0 ≡ length u.image * 2 =
          (let e = c.saturating_mul-most.ensures in let len : c.length.result ≡ length u.image = c.length.ensures sound in let low = twice-fits d u fit (c.requires.of sound) in omega arith) in
          let none : c.new-path.result ≡ [] = c.new-path.ensures in
          let path : c.push.new.self ≡ c.args.address ∷ [] = c.push.ensures (let e : length c.new-path.result ≡ 0 = ap length none in omega arith) ∙ ap (λ (x : List ℕ). x ++ c.args.address ∷ []) none in
          begins d fit (length u.image) c.args.address m G under S (c.saturating_mul-most.result - 0) c.push.new.self most path;
    }

pub returns-then-is_empty-clause-freed : goal.returns-then-is_empty-clause-freed
returns-then-is_empty-clause-freed g c sound under S =
    let d = c.args.dbd.now in
    let u = c.args.volume.now in
    let m : Links = links_of d.types u in
    let fit = (c.requires.of sound).fit in
    let G = records-link d u fit (c.requires.of sound) in
    let inv = c.loop.invariant in
    let none : c.loop.path ≡ [] = no-length c.loop.path (ap length (sym c.addresses.ensures.value) ∙ eqb-true (length c.addresses.result.now) 0 (sym c.is_empty.ensures ∙ c.if-is_empty.true)) in
    record {
      volume = inv.volume_is sound;
      records = ends d fit (length u.image) c.args.address m G under S (c.saturating_mul-most.result - c.loop.counter) (links_of d.types c.loop.volume) c.loop.path c.loop.down (inv.left sound under S) none;
      keeps = inv.keeps sound;
    }

-- a path that is not empty
some-path : (xs ys : List ℕ) (b : Bool) → ys ≡ xs → b ≡ (length ys == 0) → b ≡ false → xs ≢ []
some-path xs ys b same is not-so e = false≢true (sym not-so ∙ is ∙ eq-eqb (length ys) 0 (ap length (same ∙ e)))

pub free_next-requires-clause-there : goal.free_next-requires-clause-there
free_next-requires-clause-there g c now =
    let d = c.args.dbd.now in
    let u = c.args.volume.now in
    let m : Links = links_of d.types u in
    let inv = c.loop.invariant in
    let sound : IsTrue u.is_sound = rw (← inv.call.sound) now in
    let fit = (c.requires.of sound).fit in
    let G = records-link d u fit (c.requires.of sound) in
    let S = c.requires.there sound in
    on-way d fit (length u.image) c.args.address m G S.0 S.1 (c.saturating_mul-most.result - c.loop.counter) (links_of d.types c.loop.volume) c.loop.path c.loop.down (inv.left sound S.0 S.1)

pub free_next-requires-clause-deep : goal.free_next-requires-clause-deep
free_next-requires-clause-deep g c now asked more =
    let d = c.args.dbd.now in
    let u = c.args.volume.now in
    let m : Links = links_of d.types u in
    let inv = c.loop.invariant in
    let sound : IsTrue u.is_sound = rw (← inv.call.sound) now in
    let fit = (c.requires.of sound).fit in
    let G = records-link d u fit (c.requires.of sound) in
    let S = c.requires.there sound in
    has-room d fit (length u.image) c.args.address m G S.0 S.1 (c.saturating_mul-most.result - c.loop.counter) (links_of d.types c.loop.volume) c.loop.path c.loop.down (inv.left sound S.0 S.1)
    (some-path c.loop.path c.addresses.result.now c.is_empty.result c.addresses.ensures.value c.is_empty.ensures c.if-is_empty.false) asked more

pub loop-preserved : goal.loop-preserved
loop-preserved g c =
    let d = c.args.dbd.now in
    let u = c.args.volume.now in
    let v = c.loop.volume in
    let w = c.free_next.new.volume in
    let m : Links = links_of d.types u in
    let inv = c.loop.invariant in
    let done = λ (sound : IsTrue u.is_sound). (let now : IsTrue v.is_sound = rw inv.call.sound sound in c.in_ok-down.ensures.freed now) in
    record {
      call = call-ok 0 (calls-join (Ok c.in_ok-down.down) inv.call c.in_ok-down.ensures.call);
      room = c.in_ok-down.ensures.room ∙ inv.room;
      volume_is = λ sound. (done sound).records.volume;
      keeps = λ sound. keeps-trans (inv.volume_is sound).formatted (inv.keeps sound) (done sound).records.keeps;
      left = λ sound under S.
          let fit = (c.requires.of sound).fit in
          let G = records-link d u fit (c.requires.of sound) in
          let more : c.saturating_mul-most.result - c.loop.counter ≡ suc (c.saturating_mul-most.result - (c.loop.counter + 1)) = (let t = c.loop-test.true in omega arith) in
          let some = some-path c.loop.path c.addresses.result.now c.is_empty.result c.addresses.ensures.value c.is_empty.ensures c.if-is_empty.false in
          let was : InSpan d.types m (span_of c.args.address under) (suc (c.saturating_mul-most.result - (c.loop.counter + 1))) (record { path = c.loop.path; down = c.loop.down; records = links_of d.types v }) =
          subst (λ n. InSpan d.types m (span_of c.args.address under) n (record { path = c.loop.path; down = c.loop.down; records = links_of d.types v })) more (inv.left sound under S) in
          goes d fit (length u.image) c.args.address m G under S (c.saturating_mul-most.result - (c.loop.counter + 1)) (links_of d.types v) c.loop.path c.free_next.new.path c.loop.down c.in_ok-down.down v w was some (done sound);
    }

pub returns-clause-freed : goal.returns-clause-freed
returns-clause-freed g c sound under S =
    let d = c.args.dbd.now in
    let u = c.args.volume.now in
    let m : Links = links_of d.types u in
    let fit = (c.requires.of sound).fit in
    let G = records-link d u fit (c.requires.of sound) in
    let inv = c.loop.invariant in
    let k : Links = links_of d.types c.loop.volume in
    let zero : c.saturating_mul-most.result - c.loop.counter ≡ 0 = (let t = c.loop-test.false in omega arith) in
    let last : InSpan d.types m (span_of c.args.address under) 0 (record { path = c.loop.path; down = c.loop.down; records = k }) =
    subst (λ n. InSpan d.types m (span_of c.args.address under) n (record { path = c.loop.path; down = c.loop.down; records = k })) zero (inv.left sound under S) in
    record {
      volume = inv.volume_is sound;
      records = ends d fit (length u.image) c.args.address m G under S 0 k c.loop.path c.loop.down last (spent d fit (length u.image) c.args.address m G under S k c.loop.path c.loop.down last);
      keeps = inv.keeps sound;
    }

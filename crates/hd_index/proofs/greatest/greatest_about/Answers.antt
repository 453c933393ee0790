use Rattle.std.proofs.Common.{Bool, ◌≡◌, ◌≢◌, ℕ, false, List, [], take, cond, Option, Some, None, IsTrue, refl, sym, ap, ◌∙◌, ne_eqb}
use Rattle.std.specs.Prelude.{◌==◌}
use Rattle.std.specs.Option.{option_map_or, is_some}
use Rattle.std.proofs.lemmas.Bool.{eq-eqb}
use Rattle.hd_volume.specs.Volumes.{block_at}
use Rattle.hd_volume.specs.Entries.{entries_in}
use Rattle.hd_index_blocks.specs.Maps.{greatest_below, last_key}
use Rattle.hd_index.proofs.Searching.{order-same}
use Rattle.hd_index.proofs.Standing.{block-order, left-order, stand-greatest}
use Rattle.hd_index.proofs.Leaves.{known-leaf}
use Rattle.hd_index.specs.Greatest.{found_key}
use Rattle.hd_index.proofs.Lasts.{some-any}
use Rattle.hd_index.proofs.greatest.greatest_about.Goals as goal

none-any : (k : ℕ) (o : Option (List ℕ)) (a : List ℕ) → is_some o ≡ false → option_map_or (take k) o a ≡ a
none-any k None a h = refl
none-any k (Some x) a h = absurd (cc)

pub returns-then-own-clause-value : goal.returns-then-own-clause-value
returns-then-own-clause-value g c sound x s =
    let v = c.args.volume.now in
    let k : ℕ = c.args.key_length in
    let key = c.args.key.now in
    let left : ℕ = c.args.stand.left in
    let t : List ℕ = cond (left == 0) key (last_key key (entries_in k (block_at v left))) in
    some-any k (found_key c.in_ok-own.own c.greatest_in.new.found) key t (ap (λ (b : Bool). is_some (found_key b c.greatest_in.new.found)) c.if-own.true) ∙ c.in_ok-own.ensures.value sound (block-order x s) t ∙ sym (stand-greatest k v key c.args.stand x s)

pub returns-then-own-clause-leaf : goal.returns-then-own-clause-leaf
returns-then-own-clause-leaf g c sound x s =
    let k : ℕ = c.args.key_length in
    let own = c.in_ok-own.ensures.value sound (block-order x s) in
    known-leaf k c.args.volume.now c.args.key.now c.args.stand (option_map_or (take k) (found_key c.in_ok-own.own c.greatest_in.new.found) []) x s
    (λ other. some-any k (found_key c.in_ok-own.own c.greatest_in.new.found) [] other (ap (λ (b : Bool). is_some (found_key b c.greatest_in.new.found)) c.if-own.true) ∙ own other)

pub returns-then-stand-eq0-clause-value : goal.returns-then-stand-eq0-clause-value
returns-then-stand-eq0-clause-value g c sound x s =
    let v = c.args.volume.now in
    let k : ℕ = c.args.key_length in
    let key = c.args.key.now in
    let left : ℕ = c.args.stand.left in
    let t : List ℕ = cond (left == 0) key (last_key key (entries_in k (block_at v left))) in
    let e : t ≡ key = rw (eq-eqb left 0 c.if-stand-eq0.true) refl in
    ap (λ (b : Bool). option_map_or (take k) (found_key b c.greatest_in.new.found) key) (c.no_lower.ensures.none ∙ sym c.if-own.false)
    ∙ c.in_ok-own.ensures.value sound (block-order x s) key ∙ ap (λ (z : List ℕ). greatest_below z key (entries_in k (block_at v c.args.stand.block))) (sym e)
    ∙ sym (stand-greatest k v key c.args.stand x s)

pub returns-clause-value : goal.returns-clause-value
returns-clause-value g c sound x s =
    let v = c.args.volume.now in
    let w = c.greatest_in.new.volume in
    let k : ℕ = c.args.key_length in
    let key = c.args.key.now in
    let left : ℕ = c.args.stand.left in
    let t : List ℕ = cond (left == 0) key (last_key key (entries_in k (block_at v left))) in
    let own = c.in_ok-own.ensures.value sound (block-order x s) in
    let read = c.in_ok-own.ensures.read in
    let now : IsTrue w.is_sound = rw read.call.sound sound in
    let size = read.call.size in
    let image = read.image now in
    let same : block_at w left ≡ block_at v left = rw (size, image) refl in
    let some : left ≢ 0 = λ z. (let f = c.if-stand-eq0.false in f z) in
    let e : last_key key (entries_in k (block_at v left)) ≡ t = sym (ap (λ b. cond b key (last_key key (entries_in k (block_at v left)))) (ne_eqb left 0 some)) in
    c.in_ok-last.ensures.value now (order-same k v w left size image (left-order x s some)) key ∙ ap (λ (b : List ℕ). last_key key (entries_in k b)) same ∙ e
    ∙ sym (none-any k (found_key c.in_ok-own.own c.greatest_in.new.found) t (ap (λ (b : Bool). is_some (found_key b c.greatest_in.new.found)) c.if-own.false)) ∙ own t ∙ sym (stand-greatest k v key c.args.stand x s)

use Rattle.std.proofs.Common.{◌≡◌, ◌<◌, ℕ, List, length, sym, ap, subst, arith}
use Rattle.hd_bytes.specs.Numbers.{number_at}
use Rattle.hd_volume.specs.Volumes.{block_at}
use Rattle.hd_volume.specs.Entries.{entries_in}
use Rattle.hd_index_blocks.specs.Fields.{CountFits}
use Rattle.hd_check_index.specs.BlockExtents.{IsExtentBelow}
use Rattle.hd_check_index.specs.EntryOrders.{IsFoundIn, IsLeftBehind}
use Rattle.hd_check_index.proofs.RightBlocks.{read-right}
use Rattle.hd_check_index.proofs.order.judge_block.Goals as goal

pub returns-then-bytes-lt-FIRST-clause-found : goal.returns-then-bytes-lt-FIRST-clause-found
returns-then-bytes-lt-FIRST-clause-found g c = λ sound.
    let right = read-right c.args.key_length c.args.volume.now c.args.n c.args.level (c.requires.forms sound) (c.requires.level sound) in
    let long = right.long in
    let same : length c.in_ok-bytes.bytes.now ≡ length (block_at c.args.volume.now c.args.n) = ap (λ (t : List ℕ). length t) (c.in_ok-bytes.ensures.value sound) in
    let few = c.if-bytes-lt-FIRST.true in
    absurd (omega arith)

pub returns-then-bytes-lt-FIRST-clause-left : goal.returns-then-bytes-lt-FIRST-clause-left
returns-then-bytes-lt-FIRST-clause-left g c = λ sound.
    let right = read-right c.args.key_length c.args.volume.now c.args.n c.args.level (c.requires.forms sound) (c.requires.level sound) in
    let long = right.long in
    let same : length c.in_ok-bytes.bytes.now ≡ length (block_at c.args.volume.now c.args.n) = ap (λ (t : List ℕ). length t) (c.in_ok-bytes.ensures.value sound) in
    let few = c.if-bytes-lt-FIRST.true in
    absurd (omega arith)

pub returns-then-bytes-lt-FIRST-clause-extent : goal.returns-then-bytes-lt-FIRST-clause-extent
returns-then-bytes-lt-FIRST-clause-extent g c = λ sound.
    let right = read-right c.args.key_length c.args.volume.now c.args.n c.args.level (c.requires.forms sound) (c.requires.level sound) in
    let long = right.long in
    let same : length c.in_ok-bytes.bytes.now ≡ length (block_at c.args.volume.now c.args.n) = ap (λ (t : List ℕ). length t) (c.in_ok-bytes.ensures.value sound) in
    let few = c.if-bytes-lt-FIRST.true in
    absurd (omega arith)

pub returns-then-bytes-lt-FIRST-clause-count : goal.returns-then-bytes-lt-FIRST-clause-count
returns-then-bytes-lt-FIRST-clause-count g c = λ sound.
    let right = read-right c.args.key_length c.args.volume.now c.args.n c.args.level (c.requires.forms sound) (c.requires.level sound) in
    let long = right.long in
    let same : length c.in_ok-bytes.bytes.now ≡ length (block_at c.args.volume.now c.args.n) = ap (λ (t : List ℕ). length t) (c.in_ok-bytes.ensures.value sound) in
    let few = c.if-bytes-lt-FIRST.true in
    absurd (omega arith)

pub returns-clause-found : goal.returns-clause-found
returns-clause-found g c = λ sound.
    let k : ℕ = c.args.key_length in
    let right = read-right k c.args.volume.now c.args.n c.args.level (c.requires.forms sound) (c.requires.level sound) in
    let value : c.in_ok-bytes.bytes.now ≡ block_at c.args.volume.now c.args.n = c.in_ok-bytes.ensures.value sound in
    subst (λ (t : List ℕ). IsFoundIn k c.args.level c.args.left.now (entries_in k t) c.args.below.now c.judge_entries.result.found) value (c.judge_entries.ensures.found (subst (CountFits k) (sym value) right.fits))

pub returns-clause-left : goal.returns-clause-left
returns-clause-left g c = λ sound.
    let k : ℕ = c.args.key_length in
    let right = read-right k c.args.volume.now c.args.n c.args.level (c.requires.forms sound) (c.requires.level sound) in
    let value : c.in_ok-bytes.bytes.now ≡ block_at c.args.volume.now c.args.n = c.in_ok-bytes.ensures.value sound in
    subst (λ (t : List ℕ). IsLeftBehind k c.args.left.now (entries_in k t) c.judge_entries.new.left) value (c.judge_entries.ensures.left (subst (CountFits k) (sym value) right.fits))

pub returns-clause-extent : goal.returns-clause-extent
returns-clause-extent g c = λ sound.
    let k : ℕ = c.args.key_length in
    let right = read-right k c.args.volume.now c.args.n c.args.level (c.requires.forms sound) (c.requires.level sound) in
    let value : c.in_ok-bytes.bytes.now ≡ block_at c.args.volume.now c.args.n = c.in_ok-bytes.ensures.value sound in
    subst (λ (t : List ℕ). IsExtentBelow k c.args.level (entries_in k t) c.args.below.now c.judge_entries.result.extent) value (c.judge_entries.ensures.extent (subst (CountFits k) (sym value) right.fits) (subst (λ (t : List ℕ). 0 < number_at 2 t 4) (sym value) right.some))

pub returns-clause-count : goal.returns-clause-count
returns-clause-count g c = λ sound.
    let k : ℕ = c.args.key_length in
    let right = read-right k c.args.volume.now c.args.n c.args.level (c.requires.forms sound) (c.requires.level sound) in
    let value : c.in_ok-bytes.bytes.now ≡ block_at c.args.volume.now c.args.n = c.in_ok-bytes.ensures.value sound in
    subst (λ (t : List ℕ). c.judge_entries.result.count ≡ length (entries_in k t)) value (c.judge_entries.ensures.count (subst (CountFits k) (sym value) right.fits))

use Rattle.std.proofs.Common.{◌≡◌, inl, ℕ, List, ap, sym, subst, ◌∙◌, arith}
use Rattle.hd_dbd.specs.Hierarchy.{Database}
use Rattle.hd_volume.specs.Headers.{header_of}
use Rattle.hd_volume.specs.Volumes.{VolumeState}
use Rattle.hd_volume.specs.Entries.{entry_blocks}
use Rattle.hd_volume.specs.Indexes.{root_key_length}
use Rattle.hd_volume.proofs.CallSteps.{if-ok}
use Rattle.hd_volume.proofs.PutLemmas.{if-none-map}
use Rattle.hd_image.specs.Records.{IsVolumeOf}
use Rattle.hd_image.proofs.OneImage.{volume-same}
use Rattle.hd_image.specs.Right.{ChainIsFormed}
use Rattle.hd_check_index.specs.declared.noted_blocks.ChainedBlock.{ChainedBlock}
use Rattle.hd_check_index.specs.IndexPhases.{AreIndexBlocks, IsIndexRight, AreNamedOnce}
use Rattle.hd_check_pointers.proofs.RecordSteps.{from-none}
use Rattle.hd_check.proofs.OneStore.{IsOne, turned, chain-formed-same, bearers-same, in-order-same, sequence-same}
use Rattle.hd_check.proofs.EarlierFaults.{none-of-all, none-9, none-10, none-11}
use Rattle.hd_check.proofs.Joined.{still-sound, was-sound, read-one, found-here, firsts-same, none-same, header-says}
use Rattle.hd_check.proofs.phases.chain_fault.Goals as goal

pub returns-then-is_some-clause-some : goal.returns-then-is_some-clause-some
returns-then-is_some-clause-some g c = λ sound. found-here c.args.dbd.now c.args.volume.now 8 c.in_ok-found.found (c.requires.before sound) (c.in_ok-found.ensures.some sound)

pub returns-then-is_some-2-clause-some : goal.returns-then-is_some-2-clause-some
returns-then-is_some-2-clause-some g c = λ sound.
    let d : Database = c.args.dbd.now in
    let v : VolumeState = c.args.volume.now in
    let w : VolumeState = c.block_forms_fault.new.volume in
    let k : ℕ = root_key_length d.types in
    let e : IsOne v w = read-one c.in_ok-found.ensures.read sound in
    let V : IsVolumeOf d v = c.requires.of sound in
    let top = header-says (λ h. h.top) v w c.top-top.result e V.formatted.header.first (still-sound c.in_ok-found.ensures.read sound) c.top-top.ensures in
    let is-none = sym c.is_some.ensures ∙ c.if-is_some.false in
    let right : IsIndexRight k v = from-none c.in_ok-found.found is-none (c.in_ok-found.ensures.none sound) in
    let all : AreIndexBlocks v c.block_forms_fault.new.blocks.items = from-none c.in_ok-found.found is-none (c.in_ok-found.ensures.blocks sound) in
    let table : AreIndexBlocks v c.deref.result.now = subst (λ (l : List ChainedBlock). AreIndexBlocks v l) (sym c.deref.ensures.value) all in
    let size = c.block_size-size.ensures.value ∙ e.size in
    found-here d v 9 c.in_ok-found-2.found (none-of-all d v 8 9 (omega arith) (c.requires.before sound) (none-9 d v right)) (c.in_ok-found-2.ensures.some d v table top right V size)

pub returns-then-is_some-3-clause-some : goal.returns-then-is_some-3-clause-some
returns-then-is_some-3-clause-some g c = λ sound.
    let d : Database = c.args.dbd.now in
    let v : VolumeState = c.args.volume.now in
    let w : VolumeState = c.block_forms_fault.new.volume in
    let k : ℕ = root_key_length d.types in
    let e : IsOne v w = read-one c.in_ok-found.ensures.read sound in
    let V : IsVolumeOf d v = c.requires.of sound in
    let top = header-says (λ h. h.top) v w c.top-top.result e V.formatted.header.first (still-sound c.in_ok-found.ensures.read sound) c.top-top.ensures in
    let is-none = sym c.is_some.ensures ∙ c.if-is_some.false in
    let right : IsIndexRight k v = from-none c.in_ok-found.found is-none (c.in_ok-found.ensures.none sound) in
    let all : AreIndexBlocks v c.block_forms_fault.new.blocks.items = from-none c.in_ok-found.found is-none (c.in_ok-found.ensures.blocks sound) in
    let table : AreIndexBlocks v c.deref.result.now = subst (λ (l : List ChainedBlock). AreIndexBlocks v l) (sym c.deref.ensures.value) all in
    let size = c.block_size-size.ensures.value ∙ e.size in
    let once : AreNamedOnce v = from-none c.in_ok-found-2.found (sym c.is_some-2.ensures ∙ c.if-is_some-2.false) (c.in_ok-found-2.ensures.none d v table top right V) in
    let table-2 : AreIndexBlocks v c.deref-2.result.now = subst (λ (l : List ChainedBlock). AreIndexBlocks v l) (sym c.deref-2.ensures.value) all in
    found-here d v 10 c.in_ok-found-3.found (none-of-all d v 8 10 (omega arith) (c.requires.before sound) (none-10 d v (none-9 d v right) right.version once))
    (c.in_ok-found-3.ensures.some d v table-2 top right once V size)

pub chain_order_fault-requires-clause-of : goal.chain_order_fault-requires-clause-of
chain_order_fault-requires-clause-of g c = λ now.
    let v : VolumeState = c.args.volume.now in
    let w : VolumeState = c.block_forms_fault.new.volume in
    let sound = was-sound c.in_ok-found.ensures.read now in
    let e : IsOne v w = read-one c.in_ok-found.ensures.read sound in
    volume-same c.args.dbd.now v w e.image e.size e.sizes (c.requires.of sound)

pub chain_order_fault-requires-clause-version : goal.chain_order_fault-requires-clause-version
chain_order_fault-requires-clause-version g c = λ now.
    let sound = was-sound c.in_ok-found.ensures.read now in
    let e : IsOne c.args.volume.now c.block_forms_fault.new.volume = read-one c.in_ok-found.ensures.read sound in
    ap (λ (i : List ℕ). (header_of i).version) e.image ∙ c.requires.version sound

pub chain_order_fault-requires-clause-formed : goal.chain_order_fault-requires-clause-formed
chain_order_fault-requires-clause-formed g c = λ now.
    let d : Database = c.args.dbd.now in
    let v : VolumeState = c.args.volume.now in
    let w : VolumeState = c.block_forms_fault.new.volume in
    let k : ℕ = root_key_length d.types in
    let sound = was-sound c.in_ok-found.ensures.read now in
    let e : IsOne v w = read-one c.in_ok-found.ensures.read sound in
    let V : IsVolumeOf d v = c.requires.of sound in
    let top = header-says (λ h. h.top) v w c.top-top.result e V.formatted.header.first (still-sound c.in_ok-found.ensures.read sound) c.top-top.ensures in
    let is-none = sym c.is_some.ensures ∙ c.if-is_some.false in
    let right : IsIndexRight k v = from-none c.in_ok-found.found is-none (c.in_ok-found.ensures.none sound) in
    let all : AreIndexBlocks v c.block_forms_fault.new.blocks.items = from-none c.in_ok-found.found is-none (c.in_ok-found.ensures.blocks sound) in
    let table : AreIndexBlocks v c.deref.result.now = subst (λ (l : List ChainedBlock). AreIndexBlocks v l) (sym c.deref.ensures.value) all in
    let once : AreNamedOnce v = from-none c.in_ok-found-2.found (sym c.is_some-2.ensures ∙ c.if-is_some-2.false) (c.in_ok-found-2.ensures.none d v table top right V) in
    let table-2 : AreIndexBlocks v c.deref-2.result.now = subst (λ (l : List ChainedBlock). AreIndexBlocks v l) (sym c.deref-2.ensures.value) all in
    let formed : ChainIsFormed k v = from-none c.in_ok-found-3.found (sym c.is_some-3.ensures ∙ c.if-is_some-3.false) (c.in_ok-found-3.ensures.none d v table-2 top right once V) in
    chain-formed-same v w e k formed

pub chain_order_fault-requires-clause-chain : goal.chain_order_fault-requires-clause-chain
chain_order_fault-requires-clause-chain g c = λ now.
    let d : Database = c.args.dbd.now in
    let v : VolumeState = c.args.volume.now in
    let w : VolumeState = c.block_forms_fault.new.volume in
    let k : ℕ = root_key_length d.types in
    let sound = was-sound c.in_ok-found.ensures.read now in
    let e : IsOne v w = read-one c.in_ok-found.ensures.read sound in
    let V : IsVolumeOf d v = c.requires.of sound in
    let top = header-says (λ h. h.top) v w c.top-top.result e V.formatted.header.first (still-sound c.in_ok-found.ensures.read sound) c.top-top.ensures in
    let is-none = sym c.is_some.ensures ∙ c.if-is_some.false in
    let right : IsIndexRight k v = from-none c.in_ok-found.found is-none (c.in_ok-found.ensures.none sound) in
    let all : AreIndexBlocks v c.block_forms_fault.new.blocks.items = from-none c.in_ok-found.found is-none (c.in_ok-found.ensures.blocks sound) in
    let table : AreIndexBlocks v c.deref.result.now = subst (λ (l : List ChainedBlock). AreIndexBlocks v l) (sym c.deref.ensures.value) all in
    let once : AreNamedOnce v = from-none c.in_ok-found-2.found (sym c.is_some-2.ensures ∙ c.if-is_some-2.false) (c.in_ok-found-2.ensures.none d v table top right V) in
    let table-2 : AreIndexBlocks v c.deref-2.result.now = subst (λ (l : List ChainedBlock). AreIndexBlocks v l) (sym c.deref-2.ensures.value) all in
    let chain : c.unreached_block_fault.new.chain.items ≡ entry_blocks v = from-none c.in_ok-found-3.found (sym c.is_some-3.ensures ∙ c.if-is_some-3.false) (c.in_ok-found-3.ensures.chain d v table-2 top right once V) in
    chain ∙ sym (bearers-same v w e)

pub chain_order_fault-requires-clause-before : goal.chain_order_fault-requires-clause-before
chain_order_fault-requires-clause-before g c = λ now.
    let d : Database = c.args.dbd.now in
    let v : VolumeState = c.args.volume.now in
    let w : VolumeState = c.block_forms_fault.new.volume in
    let k : ℕ = root_key_length d.types in
    let sound = was-sound c.in_ok-found.ensures.read now in
    let e : IsOne v w = read-one c.in_ok-found.ensures.read sound in
    let V : IsVolumeOf d v = c.requires.of sound in
    let top = header-says (λ h. h.top) v w c.top-top.result e V.formatted.header.first (still-sound c.in_ok-found.ensures.read sound) c.top-top.ensures in
    let is-none = sym c.is_some.ensures ∙ c.if-is_some.false in
    let right : IsIndexRight k v = from-none c.in_ok-found.found is-none (c.in_ok-found.ensures.none sound) in
    let all : AreIndexBlocks v c.block_forms_fault.new.blocks.items = from-none c.in_ok-found.found is-none (c.in_ok-found.ensures.blocks sound) in
    let table : AreIndexBlocks v c.deref.result.now = subst (λ (l : List ChainedBlock). AreIndexBlocks v l) (sym c.deref.ensures.value) all in
    let once : AreNamedOnce v = from-none c.in_ok-found-2.found (sym c.is_some-2.ensures ∙ c.if-is_some-2.false) (c.in_ok-found-2.ensures.none d v table top right V) in
    let table-2 : AreIndexBlocks v c.deref-2.result.now = subst (λ (l : List ChainedBlock). AreIndexBlocks v l) (sym c.deref-2.ensures.value) all in
    let formed : ChainIsFormed k v = from-none c.in_ok-found-3.found (sym c.is_some-3.ensures ∙ c.if-is_some-3.false) (c.in_ok-found-3.ensures.none d v table-2 top right once V) in
    none-same d 11 v w e (none-of-all d v 8 11 (omega arith) (c.requires.before sound) (none-11 d v (none-10 d v (none-9 d v right) right.version once) right.version formed))

pub returns-clause-none : goal.returns-clause-none
returns-clause-none g c = if-ok c.chain_order_fault.result c.chain_order_fault.ensures.none
    (λ o none sound.
    let d : Database = c.args.dbd.now in
    let v : VolumeState = c.args.volume.now in
    let w : VolumeState = c.block_forms_fault.new.volume in
    let k : ℕ = root_key_length d.types in
    let e : IsOne v w = read-one c.in_ok-found.ensures.read sound in
    let V : IsVolumeOf d v = c.requires.of sound in
    let top = header-says (λ h. h.top) v w c.top-top.result e V.formatted.header.first (still-sound c.in_ok-found.ensures.read sound) c.top-top.ensures in
    let is-none = sym c.is_some.ensures ∙ c.if-is_some.false in
    let right : IsIndexRight k v = from-none c.in_ok-found.found is-none (c.in_ok-found.ensures.none sound) in
    let all : AreIndexBlocks v c.block_forms_fault.new.blocks.items = from-none c.in_ok-found.found is-none (c.in_ok-found.ensures.blocks sound) in
    let table : AreIndexBlocks v c.deref.result.now = subst (λ (l : List ChainedBlock). AreIndexBlocks v l) (sym c.deref.ensures.value) all in
    let once : AreNamedOnce v = from-none c.in_ok-found-2.found (sym c.is_some-2.ensures ∙ c.if-is_some-2.false) (c.in_ok-found-2.ensures.none d v table top right V) in
    let table-2 : AreIndexBlocks v c.deref-2.result.now = subst (λ (l : List ChainedBlock). AreIndexBlocks v l) (sym c.deref-2.ensures.value) all in
    let formed : ChainIsFormed k v = from-none c.in_ok-found-3.found (sym c.is_some-3.ensures ∙ c.if-is_some-3.false) (c.in_ok-found-3.ensures.none d v table-2 top right once V) in
    let keys = none (still-sound c.in_ok-found.ensures.read sound) in
    let one : (header_of v.image).version ≡ 1 = right.version in
    if-none-map o (λ ascend. (inl (one, formed), in-order-same w v (turned e) k (inl (ap (λ (i : List ℕ). (header_of i).version) e.image ∙ one, ascend)))) keys)

pub returns-clause-sequence : goal.returns-clause-sequence
returns-clause-sequence g c = if-ok c.chain_order_fault.result c.chain_order_fault.ensures.sequence
    (λ o sequence sound.
    let v : VolumeState = c.args.volume.now in
    let w : VolumeState = c.block_forms_fault.new.volume in
    let e : IsOne v w = read-one c.in_ok-found.ensures.read sound in
    if-none-map o (λ h. sequence-same w v (turned e) (root_key_length c.args.dbd.now.types) c.chain_order_fault.new.chain.items h) (sequence (still-sound c.in_ok-found.ensures.read sound)))

pub returns-clause-some : goal.returns-clause-some
returns-clause-some g c = if-ok c.chain_order_fault.result c.chain_order_fault.ensures.some
    (λ o some sound.
    firsts-same c.args.dbd.now c.args.volume.now c.block_forms_fault.new.volume o (read-one c.in_ok-found.ensures.read sound) (some (still-sound c.in_ok-found.ensures.read sound)))

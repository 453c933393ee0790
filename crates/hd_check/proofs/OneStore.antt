-- What a check finds in an image it finds in each state of the volume with that image.
use Rattle.std.proofs.Common.{◌≡◌, inl, inr, ℕ, List, [], ◌∷◌, sym, subst}
use Rattle.hd_bytes.specs.Numbers.{number_at}
use Rattle.hd_dbd.specs.Hierarchy.{Database}
use Rattle.hd_volume.specs.Headers.{HasHeader, header_of}
use Rattle.hd_volume.specs.Volumes.{VolumeState, block_at, IsKind}
use Rattle.hd_volume.specs.Entries.{entry_blocks}
use Rattle.hd_index_blocks.specs.LevelFaults as level
use Rattle.hd_index_blocks.specs.Faultless.{AreFormsRight, AreAllReached}
use Rattle.hd_volume.specs.Indexes.{IsChain, root_key_length}
use Rattle.hd_image.proofs.OneImage.{links-same, volume-same}
use Rattle.hd_image.specs.IndexFaults.{NamesBlock, IsWrongTop, IsWrongForm, IsNamedTwice, IsUnreachedBlock}
use Rattle.hd_image.specs.Right.{IsKnown, LevelsAreInOrder, ChainIsFormed, SetIsFormed, IndexIsFormed, IndexIsInOrder, EntriesAreRight}
use Rattle.hd_image.specs.Standing.{Stands}
use Rattle.hd_image.specs.declared.line.Line.{Line}
use Rattle.hd_image.specs.declared.line.Line.TheVariants.{NoVolume, NoVersion, AnotherDatabase, WrongChain, WrongPlace, NoKind, Deleted, NamesNothing, NamesAnother, TwoPredecessors, NoPredecessor, WrongBackward, WrongLast, OutOfOrder, NotReached, WrongTop, WrongForm, NamedTwice, UnreachedBlock, WrongNext, EntryOutOfOrder, WrongEntry, NoEntry}
use Rattle.hd_check_blocks.specs.declared.fault.Fault.{Fault}
use Rattle.hd_check_index.specs.declared.noted_blocks.ChainedBlock.{ChainedBlock}
use Rattle.hd_check_blocks.specs.Phases.{AreBlocksRight, IsLeastOf}
use Rattle.hd_check_index.specs.IndexPhases.{AreIndexBlocks, IsSequence}
use Rattle.hd_check_blocks.specs.declared.places.Place.{Place}
use Rattle.hd_check_index.specs.declared.table.NotedBlock as noted
use Rattle.hd_check_index.specs.declared.rows.Standing.{Standing}
use Rattle.hd_check_index.specs.Tables as tables
use Rattle.hd_check_index.specs.Rows.{AreRows}
use Rattle.hd_check_index.proofs.NotedTables as of-table
use Rattle.hd_check_index.proofs.RowOrders.{forms-same}
use Rattle.hd_check.specs.Joining.{HasRightBlocks, NamesAreRight}
use Rattle.hd_check_blocks.proofs.PlaceLemmas.{places-same}

-- Two states of a volume with one image, one block size and the same stored sizes.
pub record IsOne (u v : VolumeState) : Type 0 where
  pub image : v.image ≡ u.image
  pub size : v.size ≡ u.size
  pub sizes : v.sizes ≡ u.sizes

-- in the other order
pub turned : {u v : VolumeState} → IsOne u v → IsOne v u
turned e = record { image = sym e.image; size = sym e.size; sizes = sym e.sizes }

module _ (u v : VolumeState) (e : IsOne u v) where
  -- the second state, with the image of the first
  abbrev like : VolumeState
  like = record v { image = u.image; size = u.size; sizes = u.sizes }

  -- it is the second state
  like-is : like ≡ v
  like-is = (let image = sym e.image in let size = sym e.size in let sizes = sym e.sizes in λ i. record v { image = image i; size = size i; sizes = sizes i })

  -- a block is of its kind
  kind-like : (k n : ℕ) → IsKind u k n → IsKind like k n
  kind-like k n h = record { there = h.there; later = h.later; kind_is = h.kind_is }

  -- in both
  kind-back : (k n : ℕ) → IsKind like k n → IsKind u k n
  kind-back k n h = record { there = h.there; later = h.later; kind_is = h.kind_is }

  -- a block is named
  names-like : (h n : ℕ) → NamesBlock u h n → NamesBlock like h n
  names-like h n (inl top) = inl top
  names-like h n (inr (kind, next)) = inr (kind-like 2 h kind, next)

  -- a chain is one
  chain-like : (k s : ℕ) (bs : List ℕ) → IsChain k u s bs → IsChain k like s bs
  chain-like k s [] h = h
  chain-like k s (b ∷ bs) (at, block, rest) =
      (at, record { is = kind-like 2 b block.is; level = block.level; count = block.count }, chain-like k (number_at 4 (block_at u b) 8) bs rest)

  -- the lines of a chain
  top-like : (a o : ℕ) → IsWrongTop u a o → IsWrongTop like a o
  top-like a o (at, other, wrong) = (
    at,
    other,
    elim wrong [
      | inl c ↦ inl c
      | inr (inl c) ↦ inr (inl c)
      | inr (inr (inl c)) ↦ inr (inr (inl c))
      | inr (inr (inr c)) ↦ inr (inr (inr (c.0, λ l. c.1 (kind-back 2 (header_of u.image).top l.0, l.1))))
    ],
  )

  form-like : (k a o : ℕ) → IsWrongForm k u a o → IsWrongForm k like a o
  form-like k a o (n, kind, at, other, wrong) = (
    n,
    kind-like 2 n kind,
    at,
    other,
    elim wrong [
      | inl c ↦ inl c
      | inr (inl c) ↦ inr (inl c)
      | inr (inr c) ↦ inr (inr (c.0, λ l. c.1 (kind-back 2 (number_at 4 (block_at u n) 8) l.0, l.1)))
    ],
  )

  twice-like : (a o : ℕ) → IsNamedTwice u a o → IsNamedTwice like a o
  twice-like a o (n, g, h, kind, first, second, apart, at, other) = (n, g, h, kind-like 2 n kind, names-like g n first, names-like h n second, apart, at, other)

  unreached-like : (a o : ℕ) → IsUnreachedBlock u a o → IsUnreachedBlock like a o
  unreached-like a o (n, kind, none, at, other) = (n, kind-like 2 n kind, none, at, other)

  -- and those of an index set
  level-twice-like : (k a o : ℕ) → level.IsNamedTwice k u a o → level.IsNamedTwice k like a o
  level-twice-like k a o (n, g, i, h, j, kind, first, second, apart, at, other) = (n, g, i, h, j, kind-like 2 n kind, first, second, apart, at, other)

  level-unreached-like : (k a o : ℕ) → level.IsUnreachedBlock k u a o → level.IsUnreachedBlock k like a o
  level-unreached-like k a o (n, kind, none, at, other) = (n, kind-like 2 n kind, none, at, other)

  next-like : (k a o : ℕ) → level.IsWrongNext k u a o → level.IsWrongNext k like a o
  next-like k a o (l, n, left, right, s, wrong, at, other) = (l, n, left, right, record { low = s.low; row = s.row }, wrong, at, other)

  order-like : (k a o : ℕ) → level.HasEntryOutOfOrder k u a o → level.HasEntryOutOfOrder k like a o
  order-like k a o (l, n, left, right, s, wrong, at) = (l, n, left, right, record { low = s.low; row = s.row }, wrong, at)

  -- what stands in the one stands in the other
  stands-like : (d : Database) (line : Line) (a o : ℕ) → Stands d u line a o → Stands d like line a o
  stands-like d NoVolume a o s = s
  stands-like d NoVersion a o s = s
  stands-like d AnotherDatabase a o s = s
  stands-like d WrongChain a o (n, kind, none, at, other) = (n, kind-like 1 n kind, none, at, other)
  stands-like d WrongPlace a o (n, place, places, way, kind, chain, read, short, none, at, other) = (n, place, places, way, kind-like 1 n kind, chain, read, short, none, at, other)
  stands-like d NoKind a o s = s
  stands-like d Deleted a o s = s
  stands-like d NamesNothing a o s = s
  stands-like d NamesAnother a o s = s
  stands-like d TwoPredecessors a o s = s
  stands-like d NoPredecessor a o s = s
  stands-like d WrongBackward a o s = s
  stands-like d WrongLast a o s = s
  stands-like d OutOfOrder a o s = s
  stands-like d NotReached a o s = s
  stands-like d WrongTop a o s = elim s [ inl t ↦ inl (t.0, top-like a o t.1) | inr t ↦ inr t ]
  stands-like d WrongForm a o s = elim s [ inl t ↦ inl (t.0, form-like (root_key_length d.types) a o t.1) | inr t ↦ inr t ]
  stands-like d NamedTwice a o s = elim s [ inl t ↦ inl (t.0, twice-like a o t.1) | inr t ↦ inr (t.0, level-twice-like (root_key_length d.types) a o t.1) ]
  stands-like d UnreachedBlock a o s = elim s [ inl t ↦ inl (t.0, unreached-like a o t.1) | inr t ↦ inr (t.0, level-unreached-like (root_key_length d.types) a o t.1) ]
  stands-like d WrongNext a o s = elim s [ inl t ↦ inl t | inr t ↦ inr (t.0, next-like (root_key_length d.types) a o t.1) ]
  stands-like d EntryOutOfOrder a o s = elim s [ inl t ↦ inl t | inr t ↦ inr (t.0, order-like (root_key_length d.types) a o t.1) ]
  stands-like d WrongEntry a o s = s
  stands-like d NoEntry a o s = s

  pub stands-same : (d : Database) (line : Line) (a o : ℕ) → Stands d u line a o → Stands d v line a o
  stands-same d line a o s = subst (λ (w : VolumeState). Stands d w line a o) like-is (stands-like d line a o s)

  -- the blocks of the one are right where those of the other are
  pub blocks-same : AreBlocksRight u → AreBlocksRight v
  blocks-same h = subst AreBlocksRight like-is (record {
    divided = λ n k. h.divided n (kind-back 1 n k);
    kinds = λ n there later. elim (h.kinds n there later) [
      | inl k ↦ inl (kind-like 1 n k)
      | inr (inl k) ↦ inr (inl (kind-like 2 n k))
      | inr (inr k) ↦ inr (inr (kind-like 3 n k))
    ];
  })

  -- so is the index
  chain-formed : (k : ℕ) → ChainIsFormed k u → ChainIsFormed k like
  chain-formed k h = record { height = h.height; chain = chain-like k _ _ h.chain; reached = λ n kind. h.reached n (kind-back 2 n kind) }

  set-formed : (k : ℕ) → SetIsFormed k u → SetIsFormed k like
  set-formed k h = record {
    forms = record {
      height = h.forms.height;
      top = h.forms.top;
      blocks = λ n l is. (let b = h.forms.blocks n l is in record { low = b.low; some = b.some; count = b.count; next = b.next; names = b.names });
    };
    once = λ n g i m j kind one two. h.once n g i m j (kind-back 2 n kind) one two;
    reached = λ n kind. h.reached n (kind-back 2 n kind);
  }

  pub formed-same : (k : ℕ) → IndexIsFormed k u → IndexIsFormed k v
  formed-same k h = subst (IndexIsFormed k) like-is (elim h [ inl t ↦ inl (t.0, chain-formed k t.1) | inr t ↦ inr (t.0, set-formed k t.1) ])

  pub chain-formed-same : (k : ℕ) → ChainIsFormed k u → ChainIsFormed k v
  chain-formed-same k h = subst (ChainIsFormed k) like-is (chain-formed k h)

  pub set-formed-same : (k : ℕ) → SetIsFormed k u → SetIsFormed k v
  set-formed-same k h = subst (SetIsFormed k) like-is (set-formed k h)

  -- so are the parts of an index set
  pub level-forms-same : (k : ℕ) → AreFormsRight k u → AreFormsRight k v
  level-forms-same k h = forms-same k u v e.size e.image h

  pub reached-same : (k : ℕ) → AreAllReached k u → AreAllReached k v
  reached-same k h = subst (AreAllReached k) like-is (λ n kind. h n (kind-back 2 n kind))

  pub rows-same : (k : ℕ) (rows : List Standing) → AreRows k u rows → AreRows k v rows
  rows-same k rows h = subst (λ (w : VolumeState). AreRows k w rows) like-is h

  pub levels-same : (k : ℕ) → LevelsAreInOrder k u → LevelsAreInOrder k v
  levels-same k h = subst (LevelsAreInOrder k) like-is (record { next = h.next; keys = h.keys })

  pub level-table-same : (bs : List noted.NotedBlock) → tables.AreIndexBlocks u bs → tables.AreIndexBlocks v bs
  level-table-same bs h = of-table.table-same u v bs e.image e.size h

  order-like-all : (k : ℕ) → IndexIsInOrder k u → IndexIsInOrder k like
  order-like-all k h = elim h [ inl t ↦ inl t | inr t ↦ inr (t.0, record { next = t.1.next; keys = t.1.keys }) ]

  pub in-order-same : (k : ℕ) → IndexIsInOrder k u → IndexIsInOrder k v
  in-order-same k h = subst (IndexIsInOrder k) like-is (order-like-all k h)

  -- and the blocks that bear its entries
  pub sequence-same : (k : ℕ) (ns : List ℕ) → IsSequence k u ns → IsSequence k v ns
  sequence-same k ns h = subst (λ (w : VolumeState). IsSequence k w ns) like-is (record {
    ascend = h.ascend;
    there = h.there;
    all = h.all;
    bear = λ n a. (let b = h.bear n a in record { is = kind-like 2 n b.is; level = b.level; count = b.count });
  })

  -- and the table of its blocks
  pub table-same : (bs : List ChainedBlock) → AreIndexBlocks u bs → AreIndexBlocks v bs
  table-same bs h = subst (λ (w : VolumeState). AreIndexBlocks w bs) like-is (record {
    ascend = h.ascend;
    there = λ b i. (let t = h.there b i in (kind-like 2 b.number t.0, t.1));
    all = λ n kind. h.all n (kind-back 2 n kind);
  })

  -- and the blocks that bear entries
  pub bearers-same : entry_blocks v ≡ entry_blocks u
  bearers-same = (let image = e.image in let size = e.size in λ i. entry_blocks (record v { image = image i; size = size i; sizes = e.sizes i }))

  -- what its entries name is right
  pub names-right-same : (d : Database) → NamesAreRight d u → NamesAreRight d v
  names-right-same d h = subst (NamesAreRight d) like-is (record { name = h.name; each = h.each })

  -- what is right with the entries
  pub entries-same : (d : Database) → EntriesAreRight d u → EntriesAreRight d v
  entries-same d h = subst (EntriesAreRight d) like-is (record { order = order-like-all (root_key_length d.types) h.order; name = h.name; each = h.each })

  -- what is right with the blocks of the one is right with those of the other
  pub right-same : (d : Database) (ps : List Place) → HasRightBlocks d u ps → HasRightBlocks d v ps
  right-same d ps h =
      let b = blocks-same (record { divided = h.blocks.divided; kinds = h.blocks.kinds }) in
      record {
        volume = volume-same d u v e.image e.size e.sizes h.volume;
        blocks = record {
          header = subst (λ (i : List ℕ). HasHeader d.block_size i) (sym e.image) h.blocks.header;
          known = subst (λ (i : List ℕ). IsKnown d (header_of i)) (sym e.image) h.blocks.known;
          divided = b.divided;
          kinds = b.kinds;
        };
        stand = places-same d.types u v ps (links-same d.types u v e.image e.size e.sizes) h.stand;
      }

-- the least fault of a phase is one
pub least-same : (u v : VolumeState) (d : Database) (p : ℕ) (f : Fault) → IsOne u v → IsLeastOf d u p f → IsLeastOf d v p f
least-same u v d p f e h = record {
  of = h.of;
  stands = stands-same u v e d f.line f.address f.other h.stands;
  least = λ k a o is s before. h.least k a o is (stands-same v u (turned e) d k a o s) before;
}

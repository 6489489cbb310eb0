-- What waits and what is done may be said in another way.
use Rattle.std.proofs.Common.{◌≡◌, ◌≢◌, ◌⊎◌, ◌↔◌, ◌≤◌, inl, inr, ℕ, List, Some, Contains, length, slice_get}
use Rattle.aig_parts.specs.declared.raw.Raw.{Raw}
use Rattle.aig_parts.specs.Literal.{variable}
use Rattle.aig_base.specs.Readers.{AreReaders, ReaderLists, list_of}
use Rattle.aig_base.specs.state.Rewires.{Renewing, RenewsAt}
use Rattle.aig_base.proofs.fan_outs.ListedReaders.{listed, reads}

module _ (raw : Raw) (lhs r0 r1 : ℕ) (old row : List ℕ) (queued queued' done done' : ℕ → Type 0)
    (w : (v : ℕ) → queued v ↔ queued' v) (d : (v : ℕ) → done v ↔ done' v) where
  pub renewing_same : Renewing raw lhs r0 r1 old row queued done → Renewing raw lhs r0 r1 old row queued' done'
  renewing_same h = record {
    size = h.size;
    changed = h.changed;
    sources = h.sources;
    evaluated = λ v k. h.evaluated v ((d v).1 k);
    others = λ q g at ne nd. h.others q g at ne (λ k. nd ((d _).0 k));
    linked = λ q g u at ne side known apart.
        elim (h.linked q g u at ne side (elim known [ inl e ↦ inl e | inr k ↦ inr ((d u).1 k) ]) apart) [
          | inl k ↦ inl ((w _).0 k)
          | inr k ↦ inr ((d _).0 k)
        ];
    touched = λ v k. (
        let (q, g, u, at, side, is, known, apart) = h.touched v (elim k [
          | inl x ↦ inl ((w v).1 x)
          | inr x ↦ inr
              ((d v).1 x)
        ]) in
        (q, g, u, at, side, is, elim known [ inl e ↦ inl e | inr x ↦ inr ((d u).0 x) ], apart));
    fresh = λ v k x. h.fresh v ((w v).1 k) ((d v).1 x);
    over = λ v m k x. h.over v m k ((w v).1 x);
    order = λ v u m n x y. h.order v u m n ((d v).1 x) ((w u).1 y);
  }

module _ (raw : Raw) (r : ReaderLists) (are : AreReaders raw r) (w : ℕ) (le : w ≤ raw.max_var) where
  -- a step of the pass, as the list of readers has it
  pub renews_at : (level : ℕ) (row row' : List ℕ) (queued queued' : ℕ → Type 0) → length row' ≡ length row
      → slice_get row' w ≡ Some level → ((v : ℕ) → v ≢ w → slice_get row' v ≡ slice_get row v)
      → ((v : ℕ) → queued v → (v ≡ w) ⊎ queued' v)
      → (slice_get row w ≢ Some level → (v : ℕ) → Contains (list_of r w) v → queued' v)
      → ((v : ℕ) → queued' v → (queued v × (v ≢ w)) ⊎ ((slice_get row w ≢ Some level) × Contains (list_of r w) v))
      → RenewsAt raw w level row row' queued queued'
  renews_at level row row' queued queued' size cell same keeps marked new = record {
    size = size;
    cell = cell;
    same = same;
    keeps = keeps;
    readers = λ apart q g at side. marked apart (variable g.lhs) (listed raw r are w le q g at side);
    new = λ v h. elim (new v h) [
      | inl p ↦ inl p
      | inr p ↦ inr (p.0, reads raw r are w le v p.1)
    ];
  }

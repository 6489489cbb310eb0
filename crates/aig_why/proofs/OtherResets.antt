-- Explanations do not depend on resets.
use Rattle.std.proofs.Common.{◌≡◌, ℕ, List, [], ◌∷◌, length, All, Some, slice_get, sym, ap, ◌∙◌, subst, arith}
use Rattle.aig_parts.specs.declared.raw.Raw.{Raw}
use Rattle.aig_parts.specs.declared.ternary.Tern.{Tern}
use Rattle.aig_parts.specs.declared.ternary.Tern.TheVariants.{X}
use Rattle.aig_base.proofs.values.Refined.{AllZip-slice_get}
use Rattle.aig_causes.specs.Causes.{Agree, AreThere, Explain, ExplainUnknown, Has, IsMoment, Moment, Settled, Sources}
use Rattle.aig_causes.specs.Explanation.{AreKept, AreLines, ComesDown, IsAsked, IsLine, KeepsValue, LineState, named_at}
use Rattle.aig_causes.specs.Lines.{next}
use Rattle.aig_base.specs.Resets.{HasOtherResets, IsSameLatch}
use Rattle.aig_base.proofs.values.Resets.{latches_length, other_resets_back, value_with}

-- one way
module _ (raw other : Raw) (r : HasOtherResets raw other) where
  has_with : (m : Moment) (l : ℕ) (w : Tern) → Has raw m l w → Has other m l w
  has_with m l w v = value_with raw other r m.start m.rows v

  moment_with : (m : Moment) → IsMoment raw m → IsMoment other m
  moment_with m h = record {
    fits = record {
      latches = h.fits.latches ∙ sym (latches_length raw other r);
      inputs = subst (λ (ls : List ℕ). All (λ row. length row ≡ length ls) m.rows) (sym r.inputs) h.fits.inputs;
    };
    frame = h.frame;
  }

  there_with : (s : Sources) → AreThere raw s → AreThere other s
  there_with s h = record {
    inputs = λ p has. let lt = h.inputs p has in omega (arith, lt, ap length r.inputs);
    latches = λ p has. let lt = h.latches p has in omega (arith, lt, latches_length raw other r);
  }

module _ (raw other : Raw) (r : HasOtherResets raw other) where
  back : HasOtherResets other raw
  back = other_resets_back raw other r

  to : (m : Moment) (l : ℕ) (w : Tern) → Has raw m l w → Has other m l w
  to m l w v = has_with raw other r m l w v

  from : (m : Moment) (l : ℕ) (w : Tern) → Has other m l w → Has raw m l w
  from m l w v = has_with other raw back m l w v

  agree_with : (s : Sources) (m n : Moment) → Agree raw s m n → Agree other s m n
  agree_with s m n a = record {
    inputs = λ p l w has at known v.
        to n l w (a.inputs p l w has (subst (λ (ls : List ℕ). slice_get ls p ≡ Some l) r.inputs at) known (from m l w v));
    latches = λ p y w has at known v.
        let (x, here, same) = AllZip-slice_get IsSameLatch other.latches raw.latches p y back.latches at in
        subst (λ (l : ℕ). Has other n l w) same.0
        (to n x.lit w (a.latches p x w has here known (subst (λ (l : ℕ). Has raw m l w) (sym same.0) (from m y.lit w v))));
  }

  settled_with : (s : Sources) (m n : Moment) → Settled raw s m n → Settled other s m n
  settled_with s m n a = record {
    inputs = λ p l w u at v k.
        a.inputs p l w u (subst (λ (ls : List ℕ). slice_get ls p ≡ Some l) r.inputs at) (from m l w v) (from n l u k);
    latches = λ p y w u at v k.
        let (x, here, same) = AllZip-slice_get IsSameLatch other.latches raw.latches p y back.latches at in
        a.latches p x w u here (subst (λ (l : ℕ). Has raw m l w) (sym same.0) (from m y.lit w v))
        (subst (λ (l : ℕ). Has raw n l u) (sym same.0) (from n y.lit u k));
  }

  explain_in : (m : Moment) (s : Sources) (l : ℕ) → Explain other m s l → Explain raw m s l
  explain_in m s l h w known v n is agree =
      from n l w (h w known (to m l w v) n (moment_with raw other r n is) (agree_with s m n agree))

  unknown_in : (m : Moment) (s : Sources) (l : ℕ) → ExplainUnknown other m s l → ExplainUnknown raw m s l
  unknown_in m s l h v n is settled u k =
      h (to m l X v) n (moment_with raw other r n is) (settled_with s m n settled) u (to n l u k)

  keeps_in : (m : Moment) (p : ℕ) → KeepsValue other m p → KeepsValue raw m p
  keeps_in m p h x w at v =
      let (y, here, same) = AllZip-slice_get IsSameLatch raw.latches other.latches p x r.latches at in
      subst (λ (l : ℕ). Has raw (next m) l w) same.0
      (from (next m) y.lit w (h y w here (to m y.lit w (subst (λ (l : ℕ). Has raw m l w) (sym same.0) v))))

  kept_in : (m : Moment) (latches : List ℕ) (s : Sources) → AreKept other m latches s → AreKept raw m latches s
  kept_in m latches s h = record {
    no_inputs = h.no_inputs;
    same = h.same;
    values = λ k d lt. keeps_in m _ (h.values k d lt);
  }

module _ (raw other : Raw) (r : HasOtherResets raw other) where
  line_in : (m : Moment) (x : LineState) → IsLine other m x → IsLine raw m x
  line_in m line h = record {
    known = λ p x has at.
        let (y, here, same) = AllZip-slice_get IsSameLatch raw.latches other.latches p x r.latches at in
        subst (λ (l : ℕ). Explain raw m line.causes l) same.1
        (explain_in raw other r m line.causes y.next (h.known p y has here));
    unknown = λ p x has at.
        let (y, here, same) = AllZip-slice_get IsSameLatch raw.latches other.latches p x r.latches at in
        subst (λ (l : ℕ). ExplainUnknown raw m line.causes l) same.1
        (unknown_in raw other r m line.causes y.next (h.unknown p y has here));
    there = there_with other raw (other_resets_back raw other r) line.causes h.there;
    order = h.order;
    kept = (
      λ yes. kept_in raw other r m line.latches line.causes (h.kept.0 yes),
      λ are. h.kept.1 (kept_in other raw (other_resets_back raw other r) m line.latches line.causes are),
    );
  }

  lines_in : (m : Moment) (named : List ℕ) (lines : List LineState) → AreLines other m named (length other.latches) lines
      → AreLines raw m named (length raw.latches) lines
  lines_in m named lines h =
      subst (λ (n : ℕ). AreLines raw m named n lines) (latches_length raw other r)
      (record { right = λ k d lt. line_in m _ (h.right k d lt); each = h.each; only = h.only })

  asked_in : (m : Moment) (literals : List ℕ) (asked : Sources) → IsAsked other m literals asked → IsAsked raw m literals asked
  asked_in m literals asked h = record {
    known = λ k d lt. explain_in raw other r m asked _ (h.known k d lt);
    unknown = λ k d lt. unknown_in raw other r m asked _ (h.unknown k d lt);
    there = there_with other raw (other_resets_back raw other r) asked h.there;
    order = h.order;
  }

  -- an explanation of a circuit is one of the circuit with other resets
  pub comes_down_in : (literals : List ℕ) (asked : Sources) (m : Moment) (frames : List (List LineState))
      → ComesDown other literals asked m frames → ComesDown raw literals asked m frames
  unfolding ComesDown
  comes_down_in literals asked m [] h = asked_in m literals asked h
  comes_down_in literals asked m (lines ∷ frames) h =
      (lines_in m (named_at asked frames).latches lines h.0, comes_down_in literals asked (next m) frames h.1)

-- The machine value of a box that is taken apart, and what it owns. Assumes `Logic`.
use Rattle.std.proofs.Common.{◌≡◌, ℕ, List, [], ◌∷◌, ◌++◌, refl, subst}
use mathlib.Core.Bool.{true, ◌&&◌}
use lib.Dec.{T}
use seplogic.Ra.Ura.{Ura}
use mir.Syntax.{impl, tnil, dnil}
use mir.Raw.{raw as bare}
use mir.Val.{Val, vptr, vstruct, vcons, vnil, of_list, has_ty, WT}
use base.Logic.{never, fst∗}
use types.Logic.{Logic, sem}
use types.Kit.{Item, Goal, Seq, Step, step, ‵, ◌$◌, move, drop, fsplit, fjoin, fpick, fpack, feq_i, feq_l}
use denote.RattleType.{RattleType, Valss}
use denote.Builtin.{RawPtr}
use denote.Memory.{lone}
use denote.RawPtr.{Ptr, block_ptr, null_ptr, ptr_val, in_a_block}
use denote.Steps.{nothing}
use denote.Param.{layout}
use denote.Param.Laws.{Laws}
use denote.Struct.Struct.{within}
use denote.Struct.Owning.{shape}
use Rattle.core.specs.declared.alloc.Allocator.{Ghosts}
use Rattle.core.proofs.alloc.Calls.{Al, handle_tells}
use Rattle.core.proofs.cell.Inside.{Good}
use Rattle.std_alloc.specs.Box.Ownership.{box_owns}
use Rattle.std_alloc.proofs.ResultValues.{and_tt}
use Rattle.c_handles.specs.contracts.parted.Parted as parted

-- the allocator, and then the address
abbrev pub word_of : Val → ℕ → ℕ → Val
word_of h b o = vstruct (vcons h (vcons (vptr b o) vnil))

module _ (R Z : RattleType) (L : Laws Z) (g : Ghosts Z.Denot) where
  abbrev pub Parted : RattleType
  Parted = parted.the_row R Z g

  abbrev pub allocator : Al
  allocator = record { row = Z; laws = L; g = g; d = impl [] tnil dnil; drops = impl [] tnil dnil }

  -- of a box, and of an address beside an allocator
  pub pair_good : (h : Val) (b o : ℕ) → Good (layout Z) h → T (has_ty (layout Z) h && true) × WT (vstruct (vcons (vptr b o) (vcons h vnil)))
  pair_good h b o fits = (and_tt (has_ty (layout Z) h) fits.0, (tt, (fits.1, tt)))

  pub good_of : (h : Val) (b o : ℕ) → Good (layout Z) h → T (has_ty (layout Z) h && true) × WT (word_of h b o)
  good_of h b o fits = (and_tt (has_ty (layout Z) h) fits.0, (fits.1, (tt, tt)))

  module _ {M : Type 1} {𝓤 : Ura M} {𝓛 : Logic 𝓤} {K : Type 0} {Γ : List (Item 𝓤)} {G : Goal 𝓤 𝓛.H} where
    -- what is owned, of one that there is
    pub unpack : K → (d : Parted.Denot) (vs : List Val)
        → ((h : Val) (b o : ℕ) → d.address ≡ block_ptr b o → vs ≡ word_of h b o ∷ [] → Good (layout Z) h
        → Seq K 𝓛 (‵ (box_owns (g.dealloc_token d.alloc) R (block_ptr b o) d.value) ∷ ‵ (Z.own_val d.alloc (h ∷ [])) ∷ Γ) G)
        → Seq K 𝓛 (‵ (Parted.own_val d vs) ∷ Γ) G
    unpack t d vs k =
        fsplit t $ fpick t (λ vss. fsplit t $ feq_l t
        (λ whole. fsplit t $ handle_tells allocator t d.alloc vss.0
        (λ h told fits. move t (1 ∷ []) $ fsplit t $ feq_l t (λ pointed. drop t $ move t (1 ∷ []) $
        in_a_block t d.address (λ p. box_owns (g.dealloc_token d.alloc) R p d.value)
        (fst∗ 𝓤 (never 𝓤) (sem 𝓛 (g.dealloc_token d.alloc (bare (lone R.mir)) null_ptr))) (λ b o e. k h b o e
        (subst (λ (p : Ptr). vs ≡ vstruct (of_list (h ∷ ptr_val p ∷ [])) ∷ []) e
        (subst (λ (ps : List Val). vs ≡ vstruct (of_list (h ∷ (ps ++ []))) ∷ []) pointed
        (subst (λ (hs : List Val). vs ≡ vstruct (of_list (hs ++ (vss.1.0 ++ []))) ∷ []) told whole)))
        fits)))))

    -- one is made of what it owns
    pub pack : K → (h : Val) (b o : ℕ) (a : Z.Denot) (x : R.Denot)
        → Step K 𝓛 (‵ (Parted.own_val (record { alloc = a; address = block_ptr b o; value = x }) (word_of h b o ∷ [])) ∷ Γ) G
        (‵ (box_owns (g.dealloc_token a) R (block_ptr b o) x) ∷ ‵ (Z.own_val a (h ∷ [])) ∷ Γ) G
    pack t h b o a x = step (λ s. let v : Val = word_of h b o in
        nothing t $ feq_i t (List Val) (vptr b o ∷ []) (vptr b o ∷ []) refl $ fjoin t $ move t (2 ∷ 0 ∷ []) $ fjoin t $ feq_i t (List Val)
        (v ∷ []) (v ∷ []) refl $ fjoin t $
        fpack t (Valss (Z ∷ RawPtr ∷ [])) (within (shape (parted.the_type R Z g)) (a, (block_ptr b o, tt)) (v ∷ []))
        (h ∷ [], (vptr b o ∷ [], tt)) $ fjoin t $ s)

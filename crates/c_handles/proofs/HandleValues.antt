-- The machine value of a handle, and what it owns. Assumes `Logic`.
use Rattle.std.proofs.Common.{ℕ, ◌<◌, ◌^◌, List, [], ◌∷◌, refl, w64}
use seplogic.Ra.Ura.{Ura}
use lib.Dec.{T, lit<}
use mir.Syntax.{ty_ptr}
use mir.Val.{Val, vint, vstruct, vcons, vnil, has_ty, WT}
use types.Logic.{Logic}
use types.Kit.{Item, Goal, Seq, Step, step, ‵, ◌$◌, drop, fsplit, fjoin, fpick, fpack, feq_i, flt_i, flt_l}
use denote.RattleType.{RattleType, Valss}
use denote.Builtin.{RawPtr, usize}
use denote.RawPtr.{Ptr, block_ptr, null_ptr, ptr_val, rawptr_vals}
use denote.Plain.{uint_vals}
use denote.Steps.{nothing}
use denote.Struct.Struct.{within}
use denote.Struct.Owning.{shape}
use Rattle.c_handles.specs.Held.{held}
use Rattle.c_handles.specs.contracts.engine.Engine.{the_row as Inner}
use Rattle.c_handles.specs.contracts.handle.Handle as handle
use Rattle.c_handles.proofs.handle.Handle.TheLaws as handle_laws

abbrev pub R : RattleType
R = handle.the_row

abbrev pub word : Ptr → ℕ → Val
word p n = vstruct (vcons (ptr_val p) (vcons (vint w64 n) vnil))

pub ptr_good : (p : Ptr) → T (has_ty ty_ptr (ptr_val p)) × WT (ptr_val p)
ptr_good (block_ptr b o) = (tt, tt)
ptr_good null_ptr = (tt, record { fits = lit< tt })

pub word_good : (p : Ptr) (n : ℕ) → n < 2 ^ 64 → T (has_ty handle_laws.mir (word p n)) × WT (word p n)
word_good (block_ptr b o) n small = (tt, (tt, (record { fits = small }, tt)))
word_good null_ptr n small = (tt, (record { fits = lit< tt }, (record { fits = small }, tt)))

module _ {M : Type 1} {𝓤 : Ura M} {𝓛 : Logic 𝓤} {K : Type 0} {Γ : List (Item 𝓤)} {G : Goal 𝓤 𝓛.H} where
  -- a handle is made
  pub handle_in : K → (d : R.Denot) → d.is_open < 2 ^ 64
      → Step K 𝓛 (‵ (R.own_val d (word d.at d.is_open ∷ [])) ∷ Γ) G (‵ (held Inner d.is_open d.at d.holds) ∷ Γ) G
  handle_in t d small = step (λ s. let v : Val = word d.at d.is_open in
      nothing t $ flt_i t d.is_open (2 ^ 64) small $
      feq_i t (List Val) (uint_vals w64 d.is_open) (uint_vals w64 d.is_open) refl $ fjoin t $ fjoin t $
      feq_i t (List Val) (rawptr_vals d.at) (rawptr_vals d.at) refl $ fjoin t $ feq_i t (List Val) (v ∷ []) (v ∷ []) refl $ fjoin t $
      fpack t (Valss (RawPtr ∷ usize ∷ [])) (within (shape handle.the_type) (d.at, (d.is_open, tt)) (v ∷ []))
      (rawptr_vals d.at, (uint_vals w64 d.is_open, tt)) $ fjoin t $ s)

  -- a handle is taken apart, which tells that its flag fits
  pub handle_out : K → (d : R.Denot) (vs : List Val)
      → (d.is_open < 2 ^ 64 → Seq K 𝓛 (‵ (held Inner d.is_open d.at d.holds) ∷ Γ) G) → Seq K 𝓛 (‵ (R.own_val d vs) ∷ Γ) G
  handle_out t d vs k =
      fsplit t $ fpick t (λ vss. fsplit t $ drop t $ fsplit t $ drop t $ fsplit t $ fsplit t $ drop t $ flt_l t (λ small. drop t $ k small))

-- A handle that is open owns what the box as its pointer does.
use Rattle.std.proofs.Common.{◌≡◌, ℕ, zero, suc, ◌<◌, ◌^◌, List, [], ◌∷◌, ◌++◌, refl, sym, subst, eqb, eqb→eq, lit<}
use Rattle.std.proofs.Math.Facts.{T_not-not}
use Rattle.std.proofs.Math.Nat.{suc-ne-zero}
use Rattle.std.proofs.raw_atomic.Walks.{proved_at}
use seplogic.Ra.Ura.{Ura}
use base.Logic.{SProp, ent, via, id⊢, never, never_e, fst∗}
use base.Fml.{ftrue}
use mir.Val.{Val, vcons, vnil}
use mir.Raw.{raw as bare}
use prog.Model.{Model}
use prog.Wp.{Calls, Loops, WpFn}
use contract.Running.{Running, tables}
use types.Logic.{Logic, sem}
use types.Kit.{‵, prop, ⋆, ◌⊛◌, at_ret, ◌$◌, ◌∵◌, !, qed, done, by, move, keep, drop, split, join, fsplit, use0, use1, regoal, suffices}
use types.Run.{enter, of_opd, stop, fld, lit, bin, no_more, and_then, first, branches, exec, returns}
use types.ByLocal.{alloc_all, pass_all, free_all, look_at, get, get_in, sets, sets_last, env}
use types.Part.{agg, sub, whole}
use types.Match.{live}
use denote.Exit.{yes}
use denote.Memory.{lone}
use denote.RattleType.{RattleType, owns}
use denote.RawPtr.{Ptr, block_ptr, null_ptr, in_a_block}
use denote.Param.{layout}
use denote.Signature.{types_at, type_at, plain}
use denote.Steps.{nothing}
use denote.Triple.Statement.{Contract}
use denote.Triple.Walked.{Stays, stay_dropped, walk_of, Goes-dropped, says, ends_at}
use Rattle.core.proofs.alloc.Calls.{handle_tells}
use Rattle.core.proofs.alloc.Shapes.{after}
use Rattle.core.proofs.cell.Inside.{Good}
use Rattle.core.proofs.option.Made.{Some-of, none_of}
use Rattle.std.specs.Box.Ownership.{box_owns}
use Rattle.std.specs.declared.option.Option.{Option}
use Rattle.std.specs.declared.option.Option.TheVariants.{None, Some}
use Rattle.std.specs.contracts.alloc.Global as heap
use Rattle.std.proofs.alloc.Global.TheLaws as heap_laws
use Rattle.std.specs.contracts.impls.GlobalAllocator.TheImpl.{ghosts}
use Rattle.std_alloc.proofs.ResultValues.{and_tt}
use Rattle.c_handles.specs.Held.{held, token}
use Rattle.c_handles.specs.contracts.engine.Engine.{the_row as Inner}
use Rattle.c_handles.proofs.PartedValues.{word_of, Parted, allocator, good_of, pack}
use Rattle.c_handles.proofs.HandleValues.{R, word, ptr_good, word_good, handle_out}
use Rattle.c_handles.proofs.handle.Handle.TheLaws.{lowers}
use Rattle.c_handles.specs.contracts.handle.Handle.into_parted as f
use Rattle.c_handles.proofs.handle.Handle.into_parted.Statement.{statement}
use Rattle.c_handles.proofs.handle.Handle.into_parted.Code as code

abbrev Z : RattleType
Z = heap.the_row

abbrev Inside : RattleType
Inside = Parted Inner Z heap_laws.the_row_laws ghosts

abbrev stayed : Stays f.ended.signature.params f.ended.kept
stayed = (stay_dropped (plain (λ _. R)) yes, (stay_dropped (plain (λ _. Z)) yes, tt))

abbrev Out : RattleType
Out = type_at f.ended.signature.result tt

module _ {M : Type 1} (𝓤 : Ura M) (𝓛 : Logic 𝓤) (𝓜 : Model 𝓤 𝓛.H) (𝓡 : Running 𝓤 𝓛.H 𝓜) (a : Z.Denot) (us vs : List Val) (h : Val)
    (fits : Good (layout Z) h) where
  abbrev W : Contract 𝓤
  W = walk_of 𝓛 f.ended stayed (f.clauses 𝓛 𝓜.mem 𝓡.returns)

  abbrev y : Ptr → ℕ → Option Inner.Denot → W.Ghost
  y p n m = ((tt, tt, tt, (record { at = p; is_open = n; holds = m }, (a, tt)), (us, (vs, tt))), tt)

  abbrev C : Calls 𝓤 𝓛.H
  C = (tables 𝓤 𝓛.H 𝓜 𝓡 𝓡.env).C

  abbrev Λ : Loops 𝓤 𝓛.H
  Λ = (tables 𝓤 𝓛.H 𝓜 𝓡 𝓡.env).Λ

  abbrev Run : Ptr → ℕ → Option Inner.Denot → SProp 𝓤
  Run p n m = WpFn 𝓤 𝓛.H C Λ code.function (word p n ∷ h ∷ []) (W.post (y p n m))

  walk : (p : Ptr) (n : ℕ) (m : Option Inner.Denot) → n < 2 ^ 64
      → ent 𝓤 (⋆ 𝓛 (‵ (held Inner n p m) ∷ ‵ (Z.own_val a (h ∷ [])) ∷ [])) (Run p n m)
  walk p (suc n) (Some x) small =
      qed 𝓛 (‵ (box_owns token Inner p x) ∷ ‵ (Z.own_val a (h ∷ [])) ∷ []) ∵
      in_a_block ! p (λ q. box_owns token Inner q x) (fst∗ 𝓤 (never 𝓤) (sem 𝓛 (token (bare (lone Inner.mir)) null_ptr))) (λ b o e.
      let w : Val = word (block_ptr b o) (suc n) in let d : Inside.Denot = record { alloc = a; address = block_ptr b o; value = x } in
      let made : Val = word_of h b o in let typed = good_of Inner Z heap_laws.the_row_laws ghosts h b o fits in
      let out : Val = live 1 (vcons made vnil) in
      let good : Good (layout Out) out = (and_tt _ typed.0, (record { fits = lit< tt }, (typed.1, tt))) in
      regoal ! (λ q. prop (Run q (suc n) (Some x))) e refl $
      enter ! C Λ code.function (w ∷ h ∷ [])
      _ $ alloc_all ! (λ l. pass_all ! refl ((tt, (tt, (record { fits = small }, tt))), (fits, tt)) $ let Ev = env (code.function).locals l in
      -- let Handle { at, is_open } = self;
      sets ! (of_opd ! (get_in ! (fld ! refl (stop !)) (sub ! 0 refl (whole !)))) refl (tt, tt) $
      sets ! (of_opd ! (get_in ! (fld ! refl (stop !)) (sub ! 1 refl (whole !)))) refl (tt, record { fits = small }) $
      -- if is_open != 0
      sets ! (bin ! (get ! refl) (lit ! tt) tt) refl (tt, tt) $ first ! $ branches ! (get ! refl)
      (λ _. sets ! (of_opd ! (get ! refl)) refl (tt, tt) $
      sets ! (agg ! (and_then ! (get ! refl) (and_then ! (get ! refl) (no_more !)))) refl typed $
      sets_last ! (agg ! (and_then ! (lit ! tt) (and_then ! (get ! refl) (no_more !)))) refl good $
      exec ! C Λ Ev (after 4 (code.function).body) (at_ret Ev (W.post (y (block_ptr b o) (suc n) (Some x)))) $ sets ! (of_opd ! (get ! refl))
      refl good $
      returns ! (look_at ! 0 refl) $ free_all ! refl $
      pack Inner Z heap_laws.the_row_laws ghosts ! h b o a x $ use1 𝓛 (‵ (Out.own_val (Some d) (out ∷ []))) (Some-of 𝓛 Inside d made) $
      suffices ! _ (ends_at 𝓛 f.ended stayed (f.clauses 𝓛 𝓜.mem 𝓡.returns) (y (block_ptr b o) (suc n) (Some x)) out (Some d) (tt, (tt, tt))
      (tt, (tt, tt)))
      $ says ! refl $
      nothing ! $ nothing ! $ join ! $ nothing ! $ join ! $ nothing ! $ done !)
      (λ wrong. absurd (suc-ne-zero n (eqb→eq (suc n) 0 (T_not-not (eqb (suc n) 0) wrong))))))
  walk p zero None small =
      qed 𝓛 (‵ ftrue ∷ ‵ (Z.own_val a (h ∷ [])) ∷ []) ∵ drop ! $ drop ! $
      let good : Good (layout Out) (live 0 vnil) = (tt, (record { fits = lit< tt }, tt)) in
      enter ! C Λ code.function (word p zero ∷ h ∷ [])
      _ $ alloc_all ! (λ l. pass_all ! refl (word_good p zero small, (fits, tt)) $ let Ev = env (code.function).locals l in
      sets ! (of_opd ! (get_in ! (fld ! refl (stop !)) (sub ! 0 refl (whole !)))) refl (ptr_good p) $
      sets ! (of_opd ! (get_in ! (fld ! refl (stop !)) (sub ! 1 refl (whole !)))) refl (tt, record { fits = small }) $
      sets ! (bin ! (get ! refl) (lit ! tt) tt) refl (tt, tt) $ first ! $ branches ! (get ! refl)
      (λ wrong. absurd wrong)
      (λ _. sets_last ! (agg ! (and_then ! (lit ! tt) (no_more !))) refl good $
      exec ! C Λ Ev (after 4 (code.function).body) (at_ret Ev (W.post (y p zero None))) $ sets ! (of_opd ! (get ! refl)) refl good $
      returns ! (look_at ! 0 refl) $ free_all ! refl $ use0 𝓛 (‵ (Out.own_val None (live 0 vnil ∷ []))) (none_of 𝓛 Inside) $
      suffices ! _
      (ends_at 𝓛 f.ended stayed (f.clauses 𝓛 𝓜.mem 𝓡.returns) (y p zero None) (live 0 vnil) None (tt, (tt, tt)) (tt, (tt, tt)))
      $ says ! refl $
      nothing ! $ nothing ! $ join ! $ nothing ! $ join ! $ nothing ! $ done !))
  walk p (suc n) None small = via 𝓤 (never 𝓤) (fst∗ 𝓤 (never 𝓤) (sem 𝓛 (Z.own_val a (h ∷ [])))) (never_e 𝓤 _)
  walk p zero (Some x) small = via 𝓤 (never 𝓤) (fst∗ 𝓤 (never 𝓤) (sem 𝓛 (Z.own_val a (h ∷ [])))) (never_e 𝓤 _)

pub into_parted_spec : {M : Type 1} → statement M
into_parted_spec 𝓤 𝓛 𝓜 𝓡 wired =
    let H = 𝓛.H in let 𝓣 = tables 𝓤 H 𝓜 𝓡 𝓡.env in let c = f.clauses 𝓛 𝓜.mem 𝓡.returns in let fn = code.function in
    proved_at 𝓛 f.ended stayed c 𝓜 𝓡
    (Goes-dropped 𝓛 0 (plain (λ _. R)) yes (λ κs x w. refl), (Goes-dropped 𝓛 0 (plain (λ _. Z)) yes (λ κs x w. refl), tt)) f.Key.name fn
    (code.unfolded 𝓤 H 𝓜 𝓡 wired) (λ z are.
    let v = z.0.3.0 in
    let a = z.0.3.1.0 in
    let Post : Val → SProp 𝓤 = (walk_of 𝓛 f.ended stayed c).post z in
    let Goes : List Val → SProp 𝓤 = λ ws. WpFn 𝓤 H 𝓣.C 𝓣.Λ fn ws Post in
    let word_is : z.0.4.0 ≡ word v.at v.is_open ∷ [] = lowers.val_is v z.0.4.0 are.0 in
    qed 𝓛 ((‵ ftrue ⊛ ‵ (owns (types_at f.ended.signature.params tt) z.0.3 z.0.4)) ∷ ‵ ftrue ∷ [])
    ∵ split ! $ drop ! $ fsplit ! $ move ! (1 ∷ []) $ fsplit ! $
    -- [the allocator; nothing; the handle; nothing]
    handle_tells (allocator Inner Z heap_laws.the_row_laws ghosts) ! a z.0.4.1.0
    (λ h eh fits. move ! (2 ∷ []) $ handle_out ! v z.0.4.0 (λ small. keep ! (0 ∷ 1 ∷ []) $
    suffices ! (Goes (word v.at v.is_open ∷ h ∷ []))
    (subst (λ (us : List Val). ent 𝓤 (Goes (word v.at v.is_open ∷ h ∷ [])) (Goes us)) (sym (λ i. word_is i ++ (eh i ++ [])))
    (id⊢ 𝓤 (Goes (word v.at v.is_open ∷ h ∷ []))))
    $
    by ! (walk 𝓤 𝓛 𝓜 𝓡 a z.0.4.0 z.0.4.1.0 h fits v.at v.is_open v.holds small))))

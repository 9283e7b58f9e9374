-- A handle is let go.
use Rattle.std.proofs.Common.{◌^◌, w64, List, [], ◌∷◌, ◌++◌, refl, sym, subst, ◌≡◌}
use Rattle.std.proofs.raw_atomic.Walks.{proved_at}
use base.Logic.{SProp, ent, id⊢}
use base.Fml.{ftrue}
use mir.Val.{Val, vint}
use prog.Wp.{WpFn}
use contract.Running.{tables}
use types.Kit.{‵, ◌⊛◌, ◌$◌, ◌∵◌, !, qed, done, drop, split, join, fsplit, fjoin, feq_i, flt_i, suffices}
use types.Run.{enter, of_opd, stop, fld, returns}
use types.ByLocal.{alloc_all, pass_all, free_all, look_at, get, get_in, sets}
use types.Part.{sub, whole}
use denote.Exit.{yes}
use denote.Plain.{uint_vals}
use denote.RattleType.{owns}
use denote.Signature.{types_at, plain}
use denote.Steps.{nothing}
use denote.Triple.Walked.{Stays, stay_dropped, walk_of, Goes-dropped, says, ends_at}
use Rattle.c_handles.proofs.HandleValues.{R, word, word_good, handle_out}
use Rattle.c_handles.proofs.handle.Handle.TheLaws.{lowers}
use Rattle.c_handles.specs.contracts.handle.Handle.let_go as f
use Rattle.c_handles.proofs.handle.Handle.let_go.Statement.{statement}
use Rattle.c_handles.proofs.handle.Handle.let_go.Code as code

abbrev stayed : Stays f.ended.signature.params f.ended.kept
stayed = (stay_dropped (plain (λ _. R)) yes, tt)

pub let_go_spec : {M : Type 1} → statement M
let_go_spec 𝓤 𝓛 𝓜 𝓡 wired =
    let H = 𝓛.H in let 𝓣 = tables 𝓤 H 𝓜 𝓡 𝓡.env in let c = f.clauses 𝓛 𝓜.mem 𝓡.returns in let fn = code.function in
    proved_at 𝓛 f.ended stayed c 𝓜 𝓡 (Goes-dropped 𝓛 0 (plain (λ _. R)) yes (λ κs x w. refl), tt) f.Key.name fn
    (code.unfolded 𝓤 H 𝓜 𝓡 wired) (λ z are.
    let v = z.0.3.0 in
    let Post : Val → SProp 𝓤 = (walk_of 𝓛 f.ended stayed c).post z in
    let Run : List Val → SProp 𝓤 = λ ws. WpFn 𝓤 H 𝓣.C 𝓣.Λ fn ws Post in
    let w : Val = word v.at v.is_open in
    let word_is : z.0.4.0 ≡ w ∷ [] = lowers.val_is v z.0.4.0 are.0 in
    qed 𝓛 ((‵ ftrue ⊛ ‵ (owns (types_at f.ended.signature.params tt) z.0.3 z.0.4)) ∷ ‵ ftrue ∷ []) ∵ split ! $ drop ! $ fsplit ! $
    handle_out ! v z.0.4.0 (λ small. drop ! $ drop ! $ drop ! $
    suffices ! (Run (w ∷ [])) (subst (λ (us : List Val). ent 𝓤 (Run (w ∷ [])) (Run us)) (sym (λ i. word_is i ++ [])) (id⊢ 𝓤 (Run (w ∷ [])))) $
    enter ! 𝓣.C 𝓣.Λ fn (w ∷ [])
    Post $ alloc_all ! (λ l. pass_all ! refl (word_good v.at v.is_open small, tt) $
    -- let Handle { at: _, is_open } = self;
    sets ! (of_opd ! (get_in ! (fld ! refl (stop !)) (sub ! 1 refl (whole !)))) refl (tt, record { fits = small }) $
    sets ! (of_opd ! (get ! refl)) refl (tt, record { fits = small }) $
    returns ! (look_at ! 0 refl) $ free_all ! refl $ flt_i ! v.is_open (2 ^ 64) small $
    feq_i ! (List Val) (uint_vals w64 v.is_open) (uint_vals w64 v.is_open) refl $ fjoin ! $
    suffices ! _ (ends_at 𝓛 f.ended stayed c z (vint w64 v.is_open) v.is_open (tt, tt) (tt, tt)) $ says ! refl $ nothing ! $ nothing ! $
    join ! $ nothing ! $ done !)))

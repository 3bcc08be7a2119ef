use Rattle.std.proofs.Common.{◌≡◌, ◌∙◌, ◌<◌, ◌++◌, ◌∷◌, [], suc, ap, sym, arith, add-one, length, get_or}
use Rattle.def_valid.specs.Places.{last_before, size}
use Rattle.sp_places.specs.Last.{lasts}
use Rattle.sp_words.specs.View.{module_of}
use Rattle.sp_places.proofs.Modules.{last-none, last-step, lasts-more, size_lem}
use Rattle.sp_places.proofs.last.last_places.Goals as goal

pub loop-place-init : goal.loop-place-init
loop-place-init c =
    let none = last-none c.args.op (module_of c.args.words.now) in record {
      last = sym none;
      table = c.in_ok-push.ensures.items ∙ ap (λ s. s ++ 0 ∷ []) c.new-table.ensures.items ∙ ap (λ n. n ∷ []) (sym none);
    }

pub loop-place-preserved : goal.loop-place-preserved
loop-place-preserved c =
    let m = module_of c.args.words.now in
    let k = c.loop-place.place in
    let insts = c.as_slice-inst-items.ensures in
    let h : k < length c.args.words.now.insts = rw (← insts) c.loop-place-test.true in
    let x : c.inst-item.result ≡ get_or c.args.words.now.insts k c.inst-item.result =
    c.inst-item.is ∙ ap (λ s. get_or s k c.inst-item.result) insts in
    let last : c.later-last.result ≡ last_before c.args.op m (suc k) =
    last-step c.args.words.now c.args.op k c.inst-item.result c.loop-place.last c.later-last.result h x c.loop-place.invariant.last c.later-last.ensures in
    rw (add-one k)
    record {
      last = last;
      table = lasts-more c.args.op m k c.loop-place.table.items c.push-in-loop-place.new.self.items c.later-last.result
          c.loop-place.invariant.table c.in_ok-push-2.ensures.items last;
    }

pub returns : goal.returns
returns c =
    let e : c.loop-place.place ≡ size (module_of c.args.words.now) =
    omega (arith, c.loop-place.auto.place-end, c.loop-place-test.false, size_lem c.args.words.now, ap length c.as_slice-inst-items.ensures) in
    c.loop-place.invariant.table ∙ ap (lasts c.args.op (module_of c.args.words.now)) e

-- Requests of callers that are worked out.
use Rattle.std.specs.Prelude.{List, map}
use Rattle.std.specs.List.{AllByRecursion, flat_map}
use Rattle.sl_key.specs.declared.key.Key.{Key}
use Rattle.sl_key.specs.declared.request.Reply.{Reply}
use Rattle.sl_key.specs.declared.request.Request.{Request}
use Rattle.def_check.specs.Reply.{IsClosure, IsReply}
use Rattle.def_sources.specs.Sources.{Sources}

-- what each caller requests
abbrev pub requests_in : List (List (Request × Reply)) → List (List Request)
requests_in callers =
    map (λ (answered : List (Request × Reply)). map (λ (one : Request × Reply). one.0) answered)
    callers

-- Each request of each caller is replied as it is where nothing else is asked.
abbrev pub AreReplied : Sources → List (List (Request × Reply)) → Type 0
AreReplied sources callers =
    AllByRecursion (AllByRecursion (λ (one : Request × Reply). IsReply sources one.0 one.1)) callers

-- These are the replies to the requests of callers, and all keys that the requests come to.
pub record AreWorked (sources : Sources) (callers : List (List (Request × Reply))) (keys : List Key)
    : Type 0 where
  pub replied : AreReplied sources callers
  pub closure : IsClosure sources (flat_map (λ requests. requests) (requests_in callers)) keys

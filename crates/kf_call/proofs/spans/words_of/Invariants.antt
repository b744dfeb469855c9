use Rattle.std.proofs.Common.{◌≡◌, map, take, string_bytes}
use Rattle.kf_call.specs.Calls.{words_in}
use Rattle.kf_call.proofs.spans.words_of.Given as goal

abbrev pub invariant-loop-span : goal.invariant-loop-span
invariant-loop-span l = record { words : map string_bytes l.made.items ≡ words_in l.bytes (take l.span-index l.spans) }

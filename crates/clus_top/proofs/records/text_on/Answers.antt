use Rattle.std.proofs.Common.{◌∙◌, Some, sym, ap}
use Rattle.run_engine.proofs.Results.{if_ok}
use Rattle.clus_top.proofs.records.text_on.Goals as goal

pub returns-clause-text : goal.returns-clause-text
returns-clause-text c =
    if_ok c.text_in.result _ _
    (λ text h. record {
      records = record {
        stream = c.as_slice.result.now;
        there = c.in_ok-bytes.ensures.stream ∙ ap Some (sym c.as_slice.ensures.value);
        places = h.0;
        read = h.1;
      };
      written = h.2;
    })
    c.text_in.ensures.text

-- The three demands hold, and what 02, orders 1 to 6, adds to them.
use Rattle.dates.proofs.CalendarDays.{month-days}
use Rattle.dates.proofs.CalendarLaws.{date-is, one_day}
use Rattle.dates.proofs.CalendarWindows.{whole_year, one_of_two}
use Rattle.distances.proofs.Made.{made-first, made-enough, settled-best, made-few}
use Rattle.measuring.proofs.Few.{few-passes}
use Rattle.measuring.proofs.Unique.{counted-unique}
use Rattle.book.proofs.RefusalLaws.{no-place}
use Rattle.book_bytes.proofs.BytesLaws.{bytes_below}
use Rattle.book_bytes.proofs.Longest.{full_book, full_keeps, full_length}
use Rattle.book_bytes.proofs.LongBook.{longest-book}
use Rattle.book_bytes.proofs.RoundTrip.{every_book_read, round_trip, refused_otherwise, same-book}
use Rattle.writing.proofs.AnyNumbers.{any-numbers}
use Rattle.demands.specs.Demands.{Demand1, Demand2, Order1, Order2, Order3, Order4, Order5, Order6, Demand3}
use Rattle.demands.proofs.AnswerLaws.{answers}
use Rattle.demands.proofs.RefusalLaws.{refusals}
use Rattle.demands.proofs.PlanLaws.{batch-plans}
use Rattle.demands.proofs.EndLaws.{every_end, batch-ends}
use Rattle.demands.proofs.SheetOrder.{same-answers}
use Rattle.demands.proofs.StutterLaws as stutters
use Rattle.demands.proofs.PassLaws.{counted-first, settled-plans, settled-ends, few-by-plans, few-by-tables, never-over}
use Rattle.demands.proofs.SeasonLaws as seasons
use Rattle.demands.proofs.ToldLaws.{told, known, over}
use Rattle.demands.proofs.WriteLaws as writes
use Rattle.demands.proofs.LabLaws.{ruled, labs, replay-labs}

pub demand_1 : Demand1
demand_1 =
    record {
      read-exactly = round_trip;
      own-bytes = bytes_below;
      every_book = every_book_read;
      one_string = same-book;
      no_longer = longest-book;
      attained = (full_book, full_keeps, full_length);
      answered = answers;
      else_refused = refused_otherwise;
      refusals = refusals;
      no_place = no-place;
    }

pub demand_2 : Demand2
demand_2 =
    record {
      plan = batch-plans;
      order-of_sheets = same-answers;
      order_in_bytes = λ b c keeps keeps' o. same-answers _ _ b c (every_book_read b keeps) (every_book_read c keeps') o;
    }

pub order-1 : Order1
order-1 = record { every_end = every_end; batch = batch-ends }

pub order-2 : Order2
order-2 =
    record {
      in_sheets = stutters.in_sheets;
      in_area = stutters.in_area;
      from_lab = stutters.from_lab;
      bound = stutters.bound;
      never-occurs = stutters.never-occurs;
      best = stutters.best;
      none = stutters.none;
      plans = stutters.plans;
      never-named = stutters.never-named;
    }

pub order-3 : Order3
order-3 =
    record {
      first = made-first;
      counted = counted-first;
      one = counted-unique;
      enough = made-enough;
      settled = settled-best;
      settled-plans = settled-plans;
      settled-ends = settled-ends;
      few = made-few;
      best = few-passes;
      plans = few-by-plans;
      tables = few-by-tables;
      test = never-over;
    }

pub order-4 : Order4
order-4 =
    record {
      dates = date-is;
      months = month-days;
      edges = seasons.edges;
      leap_years = seasons.leap_years;
      other-years = seasons.other-years;
      no_date_bound = seasons.no_date_bound;
      no_date-begun = seasons.no_date-begun;
      both_days = seasons.both_days;
      one_day = one_day;
      whole_year = whole_year;
      one_of_two = one_of_two;
      leap_day_alone = seasons.leap_day_alone;
      known-runs = seasons.known-runs;
      by_hand = seasons.by_hand;
      no_windows = seasons.no_windows;
    }

pub order-5 : Order5
order-5 = record { told = told; known = known; over = over }

pub order-6 : Order6
order-6 =
    record {
      taken = writes.taken;
      every_book = writes.every_book;
      in_32_bits = writes.in_32_bits;
      whole = writes.whole;
      cut_changeover = writes.cut_changeover;
      cut_sheet = writes.cut_sheet;
      cut_run = writes.cut_run;
      no_others = any-numbers;
      one_book = writes.one_book;
      written = writes.written;
      no_room = writes.no_room;
      any_order_bytes = writes.any_order_bytes;
      any_order = writes.any_order;
      bad_in_any_order = writes.bad_in_any_order;
      any_read = writes.any_read;
      rewritten = writes.rewritten;
      rewritten_as_written = writes.rewritten_as_written;
      rewritten_as_it_is = writes.rewritten_as_it_is;
      rewritten-refused = writes.rewritten-refused;
    }

pub demand_3 : Demand3
demand_3 = record { after_calls = labs; after-replay = replay-labs; after_any = ruled }

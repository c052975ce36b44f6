mod IntakeLaws

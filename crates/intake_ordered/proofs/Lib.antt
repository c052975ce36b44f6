mod TakeLaws
